-- A delivery, the commands after it, and what is put back.
-- Assumes nothing.
use Prim.Native.Nat.{ℕ, ◌+◌, ◌≤◌}
use native.Mathlib.Omega.{arith}
use mathlib.Core.Path.{◌≡◌, refl, sym, ap, ◌∙◌, subst}
use mathlib.Core.Bool.{Bool, true, false, ◌||◌}
use mathlib.Core.List.{List, [], ◌∷◌, ◌++◌}
use lib.ListN.{length, take}
use lib.Dec.{leb}
use Rattle.types.specs.Capacities.{most_copies}
use Rattle.lists.specs.Lists.{choose, cut}
use Rattle.lists.proofs.Members.{cut-length}
use Rattle.rules.proofs.FormedNetwork.{fewer-length}
use Rattle.types.specs.declared.Id.{Id}
use Rattle.types.specs.declared.Number.{Number}
use Rattle.types.specs.declared.Kind.{Kind}
use Rattle.types.specs.declared.Entry.{Entry}
use Rattle.types.specs.declared.Envelope.{Envelope}
use Rattle.types.specs.declared.Message.TheVariants.{Ack}
use Rattle.types.specs.declared.InnerCommand.{InnerCommand}
use Rattle.answers.specs.Answers.{Answer}
use Rattle.std.specs.Prelude.{Option, Some, None}
use Rattle.answers.specs.Answers.{answer_of, answer_number}
use Rattle.rules.specs.Outcome.{Outcome, done, refused, bind, guard, Room}
use Rattle.rules.specs.Network.{Net, len, lowered, fewer, remove, dropping, delivering, is_duplicating, present, on_deliver}
use Rattle.rules.specs.Link.{Command, Send}
use Rattle.rules.specs.System.{Actor, Sys, unstarted, with_timers, run_commands}
use Rattle.sys_seat.specs.Seat.{Around, holding}
use Rattle.sys_seat.proofs.Seats.{some-hall}
use Rattle.sys_seat.proofs.Rooms.{sent, runs}
use Rattle.link_timers.specs.Views.{listed}
use Rattle.net_rows.specs.declared.Sent.{Sent}
use Rattle.net_rows.specs.Views.{last_after, net_of, room_of, NetReady, Changed}
use Rattle.net_rows.proofs.Ready.{deliver-ready}
use Rattle.net_rows.proofs.Laws.{used-is}
use Rattle.net_rows.proofs.Last.{delivered-kind, delivered-last}
use Rattle.link_direct.specs.Direct.{asked}
use Rattle.answers.specs.Answers.{is_done}
use Rattle.sys_emits.specs.declared.Emitted.{Emitted}
use Rattle.sys_emits.specs.Views.{sys_in, Ran}
use Rattle.sys_emits.proofs.Laws.{not-both}
use Rattle.sys_reacts.specs.declared.First.{First}
use Rattle.sys_reacts.specs.declared.First.TheVariants as first
use Rattle.sys_reacts.specs.Views.{front_of, there, entering, following, Tried, Safe}

-- ---- a delivery leaves at most as many entries and messages
less-left : (x : Entry) (l : List Entry) (b : Bool) → len (choose b [] (lowered x ∷ []) ++ l) ≤ x.count + len l
unfolding choose len lowered
less-left x l true = omega arith
less-left x l false = omega arith

cut-len : (p : Entry → Bool) (l : List Entry) → len (cut p fewer l) ≤ len l
unfolding cut choose len fewer
cut-len p [] = omega arith
cut-len p (x ∷ l) = go (p x) (cut-len p l)
  where
    go : (b : Bool) → len (cut p fewer l) ≤ len l → len
        (choose b (choose (leb x.count 1) [] (lowered x ∷ []) ++ l) (x ∷ cut p fewer l)) ≤ x.count + len l
    go true h = less-left x l (leb x.count 1)
    go false h = omega arith

module _ (e : Envelope) (m : Net) where
  fewer-entries : length (delivering e m).entries ≤ length m.entries
  unfolding delivering dropping remove choose
  fewer-entries = go (is_duplicating m.kind)
    where
      go : (b : Bool) → length (choose b (record { kind = m.kind; entries = m.entries; last = Some e }) (dropping e m)).entries ≤ length m.entries
      go true = omega arith
      go false = cut-length _ fewer fewer-length m.entries

  fewer-messages : len (delivering e m).entries ≤ len m.entries
  unfolding delivering dropping remove choose
  fewer-messages = go (is_duplicating m.kind)
    where
      go : (b : Bool) → len (choose b (record { kind = m.kind; entries = m.entries; last = Some e }) (dropping e m)).entries ≤ len m.entries
      go true = omega arith
      go false = cut-len _ m.entries

-- What goes first leaves at most as many.
abbrev Fewer : Net → Net → Type 0
Fewer m m' = (length m'.entries ≤ length m.entries) × (len m'.entries ≤ len m.entries)

entered-few : (f : First) (m m' : Net) → entering f m ≡ done m' → Fewer m m'
unfolding on_deliver guard
entered-few first.Nothing m m' q = let z : m ≡ m' = cc in rw (← z) (omega arith, omega arith)
entered-few (first.Message e v) m m' q = go (is_duplicating m.kind || present e m) q
  where
    go : (b : Bool) → guard b 3 (done (delivering e m)) ≡ done m' → Fewer m m'
    go true p = let z : delivering e m ≡ m' = cc in rw (← z) (fewer-entries e m, fewer-messages e m)
    go false p = let z : ◌≡◌ {A = ℕ} 0 1 = cc in absurd (omega arith)

-- No outcome is both done and refused.
pub never : {A : Type 0} (o : Outcome A) (p : A) (k : ℕ) → o ≡ done p → o ≡ refused k → ⊥
never o p k a b = let z : ◌≡◌ {A = ℕ} 0 1 = cc in omega arith

-- ---- the delivery, by whether the message is there
module _ (kind : Kind) (e : Envelope) (cs : List (List ℕ)) (used n : ℕ) where
  pub deliver-is : (last : Option Envelope) → on_deliver e (net_of kind last cs used)
      ≡ guard (there kind e cs used) 3 (done (delivering e (net_of kind last cs used)))
  unfolding on_deliver there present
  deliver-is last = refl

  module _ (s : Sent) (cs' : List (List ℕ)) (ch : (last : Option Envelope) → Changed cs used n (on_deliver e (net_of kind last cs used)) s cs') where
    by-there : (b : Bool) → there kind e cs used ≡ b → (last : Option Envelope)
        → Changed cs used n (guard b 3 (done (delivering e (net_of kind last cs used)))) s cs'
    by-there b q last =
        subst (λ (t : Bool). Changed cs used n (guard t 3 (done (delivering e (net_of kind last cs used)))) s cs') q
        (subst (λ (o : Outcome Net). Changed cs used n o s cs') (deliver-is last) (ch last))

    pub there-true : is_done s.answer ≡ true → there kind e cs used ≡ true
    unfolding guard answer_of
    there-true h = go (there kind e cs used) refl
      where
        go : (b : Bool) → there kind e cs used ≡ b → there kind e cs used ≡ true
        go true q = q
        go false q = absurd (not-both (is_done s.answer) h (ap is_done (by-there false q None).left.0))

    pub there-false : is_done s.answer ≡ false → there kind e cs used ≡ false
    unfolding guard answer_of
    there-false h = go (there kind e cs used) refl
      where
        go : (b : Bool) → there kind e cs used ≡ b → there kind e cs used ≡ false
        go true q = absurd (not-both (is_done s.answer) (ap is_done (by-there true q None).left.0) h)
        go false q = q

    pub delivered-net : there kind e cs used ≡ true → (last : Option Envelope) → on_deliver e (net_of kind last cs used)
        ≡ done (net_of kind (last_after kind e last) cs' s.used)
    unfolding guard
    delivered-net q last =
        let m = net_of kind last cs used in
        let h = (by-there true q last).left.1.entries in
        deliver-is last ∙ ap (λ (b : Bool). guard b 3 (done (delivering e m))) q
        ∙ ap done (λ j. record { kind = delivered-kind e m j; entries = sym h j; last = delivered-last e m j })

    pub arrived-ready : NetReady kind cs used n → NetReady kind cs' s.used s.len
    arrived-ready ready = deliver-ready kind None cs used n ready s cs' e (ch None)

    module _ (me : Id) (v : Number) (cmds : List Command) (w next left : ℕ) where
      abbrev on : Around me → Actor → Net → Outcome Sys
      on = λ hall a m. run_commands (room_of cs) me cmds (holding me hall m (with_timers (listed w) a))

      pub tried-absent : is_done s.answer ≡ false → Tried kind me (first.Message e v) cmds cs used n w
          (record { answer = s.answer; used = used; len = n; timers = w; next = next; left = left }) cs'
      unfolding guard answer_of bind
      tried-absent f =
          let q = there-false f in
          let z = (by-there false q None).left in
          record {
            room = (ch None).room;
            ready = λ h. absurd (not-both (is_done s.answer) h f);
            runs = λ h. absurd (not-both (is_done s.answer) h f);
            stops =
                λ h hall last a. ap (λ (o : Outcome Net). bind o (on hall a))
                (deliver-is last ∙ ap (λ (b : Bool). guard b 3 (done (delivering e (net_of kind last cs used)))) q)
                ∙ ap (λ (x : Answer). refused (answer_number x)) (sym z.0);
            same = λ k h. (z.3, refl, refl, refl);
          }

      pub tried-message : is_done s.answer ≡ true → (r : Emitted) (cs'' : List (List ℕ)) → Ran kind me cmds cs' s.used w r cs''
          → Tried kind me (first.Message e v) cmds cs used n w r cs''
      unfolding bind
      tried-message t r cs'' ran =
          let q = there-true t in
          let rooms : room_of cs ≡ room_of cs' = λ j. record { entries = sym (ch None).room j; copies = most_copies } in
          let then : (hall : Around me) (last : Option Envelope) (a : Actor) → following kind me (first.Message e v) cmds cs used w hall last a
          ≡ run_commands (room_of cs') me cmds (sys_in me hall kind (last_after kind e last) cs' s.used w a) =
          λ hall last a. ap (λ (o : Outcome Net). bind o (on hall a)) (delivered-net q last)
          ∙ ap (λ (c : Room). run_commands c me cmds (sys_in me hall kind (last_after kind e last) cs' s.used w a)) rooms in
          record {
            room = ran.room ∙ (ch None).room;
            ready = ran.ready;
            runs = λ h hall last a. then hall last a ∙ ran.runs h hall (last_after kind e last) a;
            stops =
                λ h hall last a. then hall last a ∙ ran.stops h hall (last_after kind e last) a
                ∙ ap (λ (x : Answer). refused (answer_number x)) (sym (ran.full h));
            same = λ k h. absurd (never _ _ k (delivered-net q None) h);
          }

-- ---- nothing goes first
module _ (kind : Kind) (me : Id) (cmds : List Command) (cs : List (List ℕ)) (used n w : ℕ) (r : Emitted) (cs' : List (List ℕ)) where
  pub tried-plain : Ran kind me cmds cs used w r cs' → Tried kind me first.Nothing cmds cs used n w r cs'
  unfolding bind
  tried-plain ran = record {
    room = ran.room;
    ready = ran.ready;
    runs = ran.runs;
    stops = λ h hall last a. ran.stops h hall last a ∙ ap (λ (x : Answer). refused (answer_number x)) (sym (ran.full h));
    same = λ k h. absurd (never _ _ k refl h);
  }

-- ---- a row's commands, by what goes first
module _ (kind : Kind) (me source : Id) (cs : List (List ℕ)) (used n w next limit : ℕ) (os : List InnerCommand) (r : Emitted) (cs' : List (List ℕ))
    (f : First) where
  pub by-nothing : f ≡ first.Nothing → Tried kind me first.Nothing (take limit (asked next os)) cs used n w r cs'
      → Tried kind me f (take limit (front_of source f ++ asked next os)) cs used n w r cs'
  unfolding front_of
  by-nothing q t = rw q t

  pub by-message : (e : Envelope) (v : Number) → f ≡ first.Message e v
      → Tried kind me (first.Message e v) (take limit (Send source (Ack v) ∷ asked next os)) cs used n w r cs'
      → Tried kind me f (take limit (front_of source f ++ asked next os)) cs used n w r cs'
  unfolding front_of
  by-message e v q t = rw q t

-- ---- put back
module _ (kind : Kind) (me : Id) (f : First) (cmds : List Command) (cs : List (List ℕ)) (used n w : ℕ) (ready : NetReady kind cs used n) (r : Emitted)
    (cs' : List (List ℕ)) (tried : Tried kind me f cmds cs used n w r cs') where
  pub safe-done : is_done r.answer ≡ true → Safe kind me f cmds cs used n w r cs'
  safe-done t = record {
    room = tried.room;
    ready = tried.ready t;
    runs = tried.runs;
    stops = tried.stops;
    kept = λ h. absurd (not-both (is_done r.answer) t h);
  }

  pub safe-back : is_done r.answer ≡ false → (next left : ℕ)
      → Safe kind me f cmds cs used n w (record { answer = r.answer; used = used; len = n; timers = w; next = next; left = left }) cs
  safe-back g next left = record {
    room = refl;
    ready = ready;
    runs = λ h. absurd (not-both (is_done r.answer) h g);
    stops = tried.stops;
    kept = λ h. (refl, refl, refl, refl);
  }

  -- With room for all of them there is no 8.
  pub safe-roomy : used + sent cmds ≤ length cs → n + sent cmds ≤ most_copies → Safe kind me f cmds cs used n w r cs'
  unfolding bind
  safe-roomy h k = go (is_done r.answer) refl (entering f (net_of kind None cs used)) refl
    where
      go : (b : Bool) → is_done r.answer ≡ b → (o : Outcome Net) → entering f (net_of kind None cs used) ≡ o
          → Safe kind me f cmds cs used n w r cs'
      go true p o q = safe-done p
      go false p (refused i) q =
          let z = tried.same i q in
          record {
            room = tried.room;
            ready = rw (z.0, z.1, z.2) ready;
            runs = λ g. absurd (not-both (is_done r.answer) g p);
            stops = tried.stops;
            kept = λ g. z;
          }
      go false p (done m) q =
          let hall = some-hall me in
          let u = used-is cs used n ready.laid in
          let v = ready.laid.sum in
          let x = entered-few f (net_of kind None cs used) m q in
          let g = runs (room_of cs) me cmds (holding me hall m (with_timers (listed w) (unstarted []))) (omega arith) (omega arith) in
          absurd (never _ g.sys _
          (ap (λ (o : Outcome Net). bind o (λ i. run_commands (room_of cs) me cmds (holding me hall i (with_timers (listed w) (unstarted []))))) q
          ∙ g.done-is)
          (tried.stops p hall None (unstarted [])))
