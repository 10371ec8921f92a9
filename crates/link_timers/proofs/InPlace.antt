-- The walk through the code of the two functions that change a set behind a `&mut`: one walk for both, over the by-value function `of` that they call
-- under the key g.
-- Of that function only its contract is used. The borrow is opened, the set copied out and passed; the set that comes back is stored, the flag
-- answered, the borrow closed.
-- Assumes nothing.
use mathlib.Core.Path.{◌≡◌, refl, ap}
use Prim.Native.Nat.{ℕ, ◌<◌, ◌^◌}
use mathlib.Core.List.{[], ◌∷◌, List}
use seplogic.Ra.Ura.{Ura}
use base.Fraction.{full_share}
use mir.Syntax.{Callee, Fn, named, mut, w8, w32, ty_bool, ty_int, ty_ref, local, value_local, place, deref, field, copy, rv_opd, seq, assign, call, return}
use mir.Val.{Val, vbool, vint, vptr, vstruct, vnil, vcons}
use base.Logic.{SProp, ent, sep, emp, via, fst∗, snd∗, ex_e, id⊢}
use base.Fml.{GName, Lft, Share, ftrue, flft, fobs, fbor, fat}
use prog.Wp.{Calls, Loops, WpFn, Tables}
use types.Logic.{Logic, sem}
use contract.Monad.{fact}
use types.Kit.{‵, raw, ◌⊛◌, some, later, ◌$◌, ◌∵◌, !, qed, by, move, keep, drop, use1, split, join, pick, rewrite, fsplit, fsplit3, fjoin, fjoin3}
use types.Kit.{feq_i}
use types.Kit.{suffices, frame, await, done}
use types.Run.{look, init, store, forget, stop, hop, fld, from, load, of_opd, and_then, no_more, assigns, land, returns, enter, alloc1, alloc0, params1, pass1}
use types.Run.{pass0, free1, free0}
use types.Part.{whole, sub, look_in}
use types.SemTy.{Body}
use sound.WpLaws.{FmC, fm_of, WpFn-mono}
use denote.RattleType.{owns}
use denote.Laws.{Is, shows}
use denote.Memory.{mem, cell_at, pointee}
use denote.Plain.{uint_vals, uint_Tells, uint_Makes, bool_Makes}
use denote.Builtin.{u8, bool}
use denote.Ref.{MutBor, MutRef, mut_vals, mut_Tells}
use denote.Signature.{plain}
use denote.Steps.{only, opens, closes, owned, peeks, heard, nothing}
use denote.Struct.Steps.{spelt}
use denote.Struct.Laws as LL
use denote.Triple.Statement.{Contract, Triple}
use denote.Triple.Call.{calls_at}
use denote.Triple.Clauses.{Clauses, ensured, lasts, closing}
use denote.Triple.Entry.{on_entry}
use denote.Triple.Spec.{Meets, triple_of}
use denote.Triple.Walked.{says, Stays, stay_ref, stay_none, walk_of, AllGo, Goes-none, Goes-ref, Walks, ends_at, walked, walk_Meets}
use denote.Exit.{yes}
use Rattle.link_timers.specs.declared.Timers.{Timers}
use Rattle.link_timers.specs.declared.Change.{Change}
use Rattle.link_timers.specs.contracts.Timers as T
use Rattle.link_timers.proofs.Timers.TheLaws as T'
use Rattle.link_timers.specs.contracts.Change as TC
use Rattle.link_timers.proofs.Change.TheLaws as TC'
use Rattle.link_timers.specs.contracts.Timers.set as core
use Rattle.link_timers.specs.contracts.Timers.set_in_place as f

-- The code, at the key of the function that it calls.
abbrev pub in_place : Callee → Fn
in_place g = record {
  lifetimes = 1;
  ty_params = [];
  givens = 0;
  outlives = [];
  params = 2;
  locals =
      local ty_bool value_local ∷ local (ty_ref (named 0) mut (pointee (T.the_row).written)) value_local ∷ local (ty_int w8) value_local
      ∷ local TC'.mir value_local
      ∷ local T'.mir value_local ∷ [];
  body = seq (assign (place 4 []) (rv_opd (copy (place 1 (deref T'.mir ∷ [])))))
      (seq (call g (copy (place 4 []) ∷ copy (place 2 []) ∷ []) (place 3 []))
      (seq (assign (place 1 (deref T'.mir ∷ [])) (rv_opd (copy (place 3 (field 1 ∷ [])))))
      (seq (assign (place 0 []) (rv_opd (copy (place 3 (field 0 ∷ []))))) return)));
}

abbrev stayed : Stays (f.ended).signature.params (f.ended).kept
stayed = (stay_ref (0 ∷ []) tt (plain (λ _. T.the_row)), (stay_none (λ _. u8) yes, tt))

module _ {M : Type 1} {𝓤 : Ura M} (𝓛 : Logic 𝓤) (of : Timers → ℕ → Change) where
  -- The contract of the by-value function.
  abbrev by_value : Clauses 𝓤 core.ended
  by_value κs a = record { ghost = Unit {0}; requires = λ _. emp 𝓤; ensures = λ _ r e. fact 𝓤 (r ≡ of a.0 a.1.0) }

  abbrev pub Core : Contract 𝓤
  Core = triple_of 𝓛 core.signature (closing 𝓛 core.ended by_value)

  -- Its promise, without what stays of the arguments.
  core-of : (h : Timers) (n : ℕ) (r : Change) → ent 𝓤 (ensured 𝓛 core.ended by_value tt (h, (n, tt)) tt r) (fact 𝓤 (r ≡ of h n))
  core-of h n r = ex_e 𝓤 _ (λ ws. snd∗ 𝓤 (sem 𝓛 (lasts core.ended tt (h, (n, tt)) ws)) (fact 𝓤 (r ≡ of h n)))

  -- The contract in place.
  abbrev pub behind : Clauses 𝓤 f.ended
  behind κs a = record {
    ghost = Unit {0};
    requires = λ _. emp 𝓤;
    ensures = λ _ r e. fact 𝓤 ((e.0.now ≡ (of a.0.now a.1.0).timers) × (r ≡ (of a.0.now a.1.0).changed));
  }

module _ {M : Type 1} {𝓤 : Ura M} (𝓛 : Logic 𝓤) (of : Timers → ℕ → Change) (κ : Lft) (q : Share) (b o : ℕ)
    (γ : GName)
    (h : Timers) (n : ℕ) where
  open 𝓛 use {H, A}

  abbrev x : MutBor Timers × (ℕ × Unit {0})
  x = (record { ref_ptr = (b, o); ghost_name = γ; now = h }, (n, tt))

  abbrev at : List Val × (List Val × Unit {0})
  at = (vptr b o ∷ [], (vint w8 n ∷ [], tt))

  abbrev mach : Timers → Val
  mach y = vstruct (vcons (vint w32 y.0) vnil)

  abbrev Post : Val → SProp 𝓤
  Post = (walk_of 𝓛 f.ended stayed (behind 𝓛 of)).post (((κ, tt), (q, tt), tt, x, at), tt)

  exits : n < 2 ^ 8 → (r : Change) → r ≡ of h n
      → ent 𝓤 (sep 𝓤 (A.obs γ ((T.the_row).coded.code r.timers)) (sep 𝓤 (A.bor κ (Body (mem T.the_row) b o γ)) (A.lft κ q)))
      (Post (vbool r.changed))
  exits fits r e =
      qed 𝓛 (‵ (fobs γ ((T.the_row).coded.code r.timers)) ∷ ‵ (fbor κ (Body (mem T.the_row) b o γ)) ∷ ‵ (flft κ q) ∷ []) ∵
      suffices ! _ (ends_at 𝓛 f.ended stayed (behind 𝓛 of) (((κ, tt), (q, tt), tt, x, at), tt) (vbool r.changed) r.changed
      (r.timers, (tt, tt)) (tt, (tt, tt))) $
      says ! (ap (λ (y : Change). y.timers) e, ap (λ (y : Change). y.changed) e) $ nothing ! $ move ! (3 ∷ 0 ∷ []) $ join ! $
      frame ! $ feq_i ! (List Val) (vptr b o ∷ []) (vptr b o ∷ []) refl $ fjoin3 ! $ nothing ! $ owned ! u8 (Is u8) (uint_Makes 𝓛 w8) n _
      (refl, fits) $
      fjoin ! $ move ! (1 ∷ 0 ∷ []) $ fjoin ! $ frame ! $
      owned ! bool (Is bool) (bool_Makes 𝓛) r.changed _ refl $ done !

  -- What the call binds, and what it asks for.
  abbrev to-core : (Core 𝓛 of).Ghost
  to-core = ((tt, tt, tt, (h, (n, tt)), (mach h ∷ [], (vint w8 n ∷ [], tt))), tt)

  goes-core : n < 2 ^ 8 → Is T.the_row h (mach h ∷ []) → ent 𝓤 (sem 𝓛 ftrue) ((Core 𝓛 of).pre to-core)
  goes-core fits was =
      qed 𝓛 (‵ ftrue ∷ []) ∵ nothing ! $ owned ! u8 (Is u8) (uint_Makes 𝓛 w8) n _ (refl, fits) $ fjoin ! $
      owned ! T.the_row (Is T.the_row) ((LL.makes T.the_type T'.the_plain) 𝓛) h _ was $ fjoin ! $ move ! (1 ∷ 0 ∷ []) $ join ! $ frame ! $ done !

  -- The set in the struct that came back is a word.
  small : (r : Change) (v : Val) → Is TC.the_row r (v ∷ []) → r.timers.0 < 2 ^ 32
  small r v is = (LL.owed T.the_type T'.the_laws r.timers _ (LL.owed TC.the_type TC'.the_laws r _ is).1.0).0.1

  made : (y : Timers) → y.0 < 2 ^ 32 → Is T.the_row y (mach y ∷ [])
  made y fits = LL.owes T.the_type T'.the_laws y ((refl, fits), tt)

  module _ (g : Callee) (C : Calls 𝓤 H) (Λ : Loops 𝓤 H) (fm : FmC 𝓤 H 𝓛.laws C) (known : Triple 𝓤 (C g) (Core 𝓛 of)) where
    walk : ent 𝓤 (on_entry 𝓛 f.signature (κ, tt) (q, tt) x at) (WpFn 𝓤 H C Λ (in_place g) (vptr b o ∷ vint w8 n ∷ []) Post)
    walk =
        qed 𝓛 ((‵ (flft κ q) ⊛ ‵ ftrue) ∷ ‵ (owns (MutRef (named 0) κ T.the_row ∷ u8 ∷ []) x at) ∷ []) ∵ split ! $ move !
        (2 ∷ []) $ fsplit ! $
        move ! (1 ∷ []) $ fsplit ! $
        peeks ! u8 (Is u8) (shows 𝓛 u8) n (vint w8 n ∷ []) (λ gn. move ! (2 ∷ []) $ fsplit3 ! $ drop ! $ move ! (0 ∷ 1 ∷ 4 ∷ []) $
        -- Held: what was observed, the borrow, the lifetime's share, the timer.
        enter ! C Λ (in_place g) (vptr b o ∷ vint w8 n ∷ []) _ $
        alloc1 ! (λ l₀. alloc1 ! (λ l₁. alloc1 ! (λ l₂. alloc1 ! (λ l₃. alloc1 ! (λ l₄. alloc0 ! $ params1 ! $ pass1 ! (init ! 6 refl (tt, tt)) $
        pass1 ! (init ! 4 refl (tt, record { fits = gn.1 })) $ pass0 ! $
        move ! (10 ∷ 11 ∷ 12 ∷ []) $
        opens ! tt T.the_row {h = h} b o (λ vs. spelt ! T.the_row (Is T.the_row) (shows 𝓛 T.the_row) (LL.vals T.the_type T'.the_laws)
        (LL.tells T.the_type T'.the_laws) full_share h vs b o $
        use1 𝓛 (‵ (fat full_share T'.mir b o (mach h))) (𝓛.laws.raw_at full_share T'.mir b o (mach h)) $
        move ! (1 ∷ []) $ peeks ! T.the_row (Is T.the_row) (shows 𝓛 T.the_row) h (mach h ∷ []) (λ was. drop ! $
        -- The borrow is open, and its cell comes first. The set is copied and passed.
        assigns ! (of_opd ! (load ! (from ! (hop ! (look ! 10 refl) (stop !))) (look ! 0 refl))) (from ! (stop !))
        (init ! 4 refl ((LL.lawful T.the_type T'.the_laws 𝓛).typed h _ was).0) $
        nothing ! $ use1 𝓛 (raw ((Core 𝓛 of).pre to-core)) (goes-core gn.1 was) $
        calls_at ! fm (Core 𝓛 of) known to-core
        (and_then ! (load ! (from ! (stop !)) (look ! 5 refl)) (and_then ! (load ! (from ! (stop !)) (look ! 9 refl)) (no_more !))) (λ v.
        use1 𝓛 (later (some (λ (r : Change). (‵ ftrue ⊛ ‵ ((TC.the_row).own_val r (v ∷ []))) ⊛ raw
        (ensured 𝓛 core.ended (by_value 𝓛 of) tt (h, (n, tt)) tt
        r)))) (id⊢ 𝓤 _) $ await ! tt $ pick ! (λ r.
        split ! $ move ! (1 ∷ []) $ use1 𝓛 (raw (fact 𝓤 (r ≡ of h n))) (core-of 𝓛 of h n r) $ heard ! (r ≡ of h n) (λ e. split ! $ drop ! $
        peeks ! TC.the_row (Is TC.the_row) (shows 𝓛 TC.the_row) r (v ∷ []) (λ is. drop ! $
        -- The answer is taken apart: the set is stored in the cell, the flag is returned.
        land ! (from ! (stop !)) (init ! 6 refl ((LL.lawful TC.the_type TC'.the_laws 𝓛).typed r _ is).0) $
        rewrite ! 6 (λ (u : Val). ‵ (fat full_share TC'.mir l₃ 0 u)) (ap only (LL.tells TC.the_type TC'.the_laws r (v ∷ []) is)) refl $
        assigns ! (of_opd ! (load ! (from ! (fld ! refl (stop !))) (look_in ! 6 (sub ! 1 refl (whole !))))) (from ! (hop ! (look ! 10 refl) (stop !)))
        (store ! 0 refl ((LL.lawful T.the_type T'.the_laws 𝓛).typed r.timers _ (made r.timers (small r v is))).0) $
        assigns ! (of_opd ! (load ! (from ! (fld ! refl (stop !))) (look_in ! 6 (sub ! 0 refl (whole !))))) (from ! (stop !)) (init ! 12 refl (tt, tt)) $
        use1 𝓛 (‵ (cell_at full_share (T.the_row).mir (mach r.timers ∷ []) b o)) (𝓛.laws.at_raw full_share T'.mir b o (mach r.timers)) $
        owned ! T.the_row (Is T.the_row) ((LL.makes T.the_type T'.the_plain) 𝓛) r.timers _ (made r.timers (small r v is)) $ move !
        (1 ∷ 0 ∷ []) $
        closes ! tt T.the_row r.timers (mach r.timers ∷ []) b o $
        returns ! (look ! 11 refl) $ forget ! 3 refl $ forget ! 5 refl $ forget ! 7 refl $ forget ! 9 refl $ forget ! 11 refl $
        move ! (11 ∷ 12 ∷ []) $ free1 ! $ move ! (9 ∷ 10 ∷ []) $ free1 ! $ move ! (7 ∷ 8 ∷ []) $ free1 ! $ move ! (5 ∷ 6 ∷ []) $ free1 ! $
        move ! (3 ∷ 4 ∷ []) $ free1 ! $ free0 ! $
        keep ! (0 ∷ 1 ∷ 2 ∷ []) $ by ! (exits gn.1 r e)))))))))))))

module _ {M : Type 1} {𝓤 : Ura M} (𝓛 : Logic 𝓤) (of : Timers → ℕ → Change) where
  open 𝓛 use {H}

  walks : (g : Callee) (C : Calls 𝓤 H) (Λ : Loops 𝓤 H) → FmC 𝓤 H 𝓛.laws C → Triple 𝓤 (C g) (Core 𝓛 of)
      → Walks 𝓛 f.ended stayed (WpFn 𝓤 H C Λ (in_place g)) (behind 𝓛 of)
  walks g C Λ fm known =
      walked 𝓛 f.ended stayed (behind 𝓛 of) (WpFn 𝓤 H C Λ (in_place g)) (λ κs. (mut_vals, (uint_vals w8, tt)))
      (λ κs. (mut_Tells (named 0) κs.0 T.the_row, (uint_Tells w8, tt)))
      (λ κs qs bounds a _ _. via 𝓤 _ (fst∗ 𝓤 _ (emp 𝓤))
      (walk 𝓛 of κs.0 qs.0 a.0.ref_ptr.0 a.0.ref_ptr.1 a.0.ghost_name a.0.now a.1.0 g C Λ fm known))

  goes : AllGo 𝓛 1 (f.signature).params (f.ended).kept stayed
  goes = (Goes-ref 𝓛 1 0 tt (plain (λ _. T.the_row)), (Goes-none 𝓛 1 (λ _. u8) yes (λ κs x f. refl), tt))

pub meets : {M : Type 1} {𝓤 : Ura M} (𝓛 : Logic 𝓤) (of : Timers → ℕ → Change) (g : Callee) (𝓣 : Tables 𝓤 𝓛.H)
    → Triple 𝓤 (𝓣.C g) (Core 𝓛 of) → Meets 𝓛 f.signature (WpFn 𝓤 𝓛.H 𝓣.C 𝓣.Λ (in_place g))
    (closing 𝓛 f.ended (behind 𝓛 of))
meets {𝓤 = 𝓤} 𝓛 of g 𝓣 known =
    walk_Meets 𝓛 f.ended stayed (goes 𝓛 of) (behind 𝓛 of) (WpFn 𝓤 𝓛.H 𝓣.C 𝓣.Λ (in_place g))
    (WpFn-mono 𝓤 𝓛.H 𝓛.laws 𝓣 (in_place g))
    (walks 𝓛 of g 𝓣.C 𝓣.Λ (fm_of 𝓤 𝓛.H 𝓛.laws 𝓣) known)
