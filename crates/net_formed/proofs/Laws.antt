-- The test has six parts. A network that passes is laid out: a place that counts as zero is the zero entry, so the unused ones are all that entry.
-- Assumes nothing.
use Prim.Native.Nat.{ℕ, zero, suc, ◌-◌}
use native.Mathlib.Omega.{arith}
use mathlib.Core.Path.{◌≡◌, refl, sym, ap, ◌∙◌}
use mathlib.Core.Bool.{Bool, true, ◌&&◌, and_assoc, and-true}
use mathlib.Core.List.{List, ◌++◌}
use lib.ListN.{length, drop, replicate, length-take, length-drop, take-append-drop}
use lib.Seq.{drop_at}
use lib.Dec.{leb, eqb}
use borrow.Author.Tests.{eqb-true, leb-true, le-leb}
use Rattle.lists.specs.Lists.{all, every, pad}
use Rattle.lists.proofs.Members.{and_both}
use Rattle.lists.proofs.Places.{laid-length}
use Rattle.lists.proofs.Walks.{all_same}
use Rattle.types.specs.declared.Entry.{Entry}
use Rattle.types.specs.Capacities.{most_entries}
use Rattle.types.specs.Order.{same, cmp_envelope}
use Rattle.types.proofs.Laws.{same-is}
use Rattle.rules.specs.WellFormed.{last_ok, net_ok}
use Rattle.net_network.specs.declared.Network.{Network}
use Rattle.net_network.specs.Views.{zero_entry, entry_list, NetLaid}
use Rattle.net_formed.specs.Formed.{zeroed, parts_fine, laid_out, net_formed}

-- ---- a zero entry, and a list of them
zeroed-is : (x : Entry) → zeroed x ≡ true → x ≡ zero_entry
unfolding zeroed
zeroed-is x e =
    let h = and_both (eqb x.count 0) _ e in
    let q : x.count ≡ 0 = eqb-true x.count 0 h.0 in
    let p : x.envelope ≡ zero_entry.envelope = same-is x.envelope zero_entry.envelope h.1 in
    λ i. record { envelope = p i; count = q i }

zeros : (m : ℕ) → all zeroed (replicate m zero_entry) ≡ true
unfolding all zeroed same cmp_envelope
zeros zero = refl
zeros (suc m) = zeros m

-- ---- a network that passes is laid out, and one that is laid out passes the first two parts
module _ (n : Network) (room : length n.entries ≡ most_entries) where
  abbrev unused : List Entry
  unused = drop n.used n.entries

  pub laid_out_lem : laid_out n ≡ true → NetLaid n
  unfolding laid_out pad
  laid_out_lem e =
      let h = and_both (leb n.used most_entries) _ e in
      let k : length unused ≡ most_entries - length (entry_list n)
      = omega (arith, leb-true, length-drop n.used n.entries, length-take n.used n.entries) in
      record {
        fit = leb-true _ _ h.0;
        rest =
            sym (take-append-drop n.used n.entries)
            ∙ ap (λ (l : List Entry). entry_list n ++ l) (all_same zeroed zero_entry zeroed-is unused h.1 ∙ ap (λ (m : ℕ). replicate m zero_entry) k);
      }

  pub formed-laid : (k : ℕ) → net_formed n k ≡ true → NetLaid n
  unfolding net_formed
  formed-laid k e = laid_out_lem (and_both (laid_out n) _ e).0

  pub laid-passes : NetLaid n → laid_out n ≡ true
  unfolding laid_out pad
  laid-passes h =
      let v : length (entry_list n) ≡ n.used = laid-length most_entries zero_entry n.entries n.used h.fit h.rest in
      let d : unused ≡ replicate (most_entries - length (entry_list n)) zero_entry = ap (drop n.used) h.rest ∙ drop_at (entry_list n) _ n.used v in
      rw (le-leb n.used most_entries h.fit, d) (zeros (most_entries - length (entry_list n)))

  -- ---- an answer that is the parts' is the test's, and is true of networks that are laid out alone
  abbrev asked : ℕ → Bool
  asked k = leb n.used most_entries && (all zeroed unused && parts_fine n.kind k (entry_list n) n.last)

  parts : (k : ℕ) → net_formed n k ≡ asked k
  unfolding net_formed laid_out net_ok every
  parts k =
      let t : leb (length (entry_list n)) most_entries ≡ true
      = le-leb (length (entry_list n)) most_entries (omega (arith, length-take n.used n.entries)) in
      and_assoc (leb n.used most_entries) (all zeroed unused) _ ∙ rw (t, and-true (last_ok k n.kind n.last))

  pub told : (k : ℕ) (r : Bool) → asked k ≡ r → (r ≡ net_formed n k) × (r ≡ true → NetLaid n)
  told k r e = (sym (parts k ∙ e), λ t. formed-laid k (parts k ∙ e ∙ t))
