-- Why the output is right: the start's line and the lines of the run stand one behind the other, and together they are what the rules' replay
-- of the script says.
-- Assumes nothing.
use Prim.Native.Nat.{ℕ, ◌+◌, ◌≤◌, ◌<◌}
use native.Mathlib.Omega.{arith}
use mathlib.Core.Path.{◌≡◌, refl, sym, ap, ◌∙◌, subst}
use mathlib.Core.Bool.{Bool, true, false, not, true≢false}
use mathlib.Core.Logic.{◌⊎◌, inl, inr}
use mathlib.Core.List.{List, [], ◌∷◌, ◌++◌}
use lib.ListN.{length, drop}
use lib.Dec.{eqb, lit≤}
use borrow.Author.Tests.{eqb-true, le-leb, lt-leb}
use Rattle.lists.specs.Lists.{all, choose}
use Rattle.lists.proofs.Members.{not-true, any-in, all_in}
use Rattle.types.specs.Capacities.{most_entries}
use Rattle.types.specs.declared.Action.{Action}
use Rattle.types.specs.declared.Format.{Format}
use Rattle.answers.specs.Answers.{answer_number, answer_of}
use Rattle.layout.specs.Read.{Reading, read, bad_at}
use Rattle.rules.specs.Outcome.{Outcome, done, refused, base}
use Rattle.rules.specs.Network.{len}
use Rattle.rules.specs.System.{Sys, Next, systems}
use Rattle.rules.specs.Start.{blank, Setup, boot, start}
use Rattle.rules.specs.Run.{answer, after, totals}
use Rattle.rules.specs.WellFormed.{well_formed}
use Rattle.rules.specs.Script.{versions, format_of, Fine, read_script, actions_from}
use Rattle.rules.specs.Program.{bad_word, start_word, done_word, line, size, start_line, done_line, run_lines, replayed, replay}
use Rattle.rules.proofs.Formats.{formats-fine}
use Rattle.rules.proofs.Laws.{Holds}
use Rattle.rules.proofs.Answers.{start_numbers, start-answers, start-done}
use Rattle.rules.proofs.Formed.{start-well}
use Rattle.net_network.specs.Views.{net_view}
use Rattle.answers.specs.Answers.{is_done}
use Rattle.std.specs.Prelude.{Ok, Err}
use Rattle.script_check.specs.Views.{layout_of}
use Rattle.script_check.proofs.Says.{same_place}
use Rattle.script_check.proofs.Whole.{Parts}
use Rattle.replay_lines.specs.Pieces.{put, Fits, Piece}
use Rattle.replay_lines.proofs.Laws.{fits-first, fits-then, piece_then}
use Rattle.sys_system.specs.Views.{sys_view, system_of}
use Rattle.sys_system.proofs.Laws.{system-back, image-laid}
use Rattle.sys_answered.specs.declared.Answered.{Answered}
use Rattle.sys_answered.specs.Views.{Ready, answered_of}
use Rattle.replay_run.specs.Views.{run_text, Runs}
use Rattle.replay_script.specs.Views.{Told, longest}
use Rattle.replay_script.proofs.Long.{whole-short}
use Rattle.replay_run.proofs.Laws.{net-fits}

-- ---- what a start left
number-back : (n : ℕ) → start_numbers n ≡ true → (answer_number (answer_of n) ≡ n) × (is_done (answer_of n) ≡ false)
unfolding answer_of all
number-back n h =
    let w = any-in (eqb n) (6 ∷ 7 ∷ 8 ∷ 10 ∷ []) h in
    let e = all_in (λ k. eqb (answer_number (answer_of k)) k) (6 ∷ 7 ∷ 8 ∷ 10 ∷ []) refl w.0 w.1 in
    let f = all_in (λ k. not (is_done (answer_of k))) (6 ∷ 7 ∷ 8 ∷ 10 ∷ []) refl w.0 w.1 in
    subst (λ (k : ℕ). (answer_number (answer_of k) ≡ k) × (is_done (answer_of k) ≡ false)) (sym (eqb-true n w.0 w.2)) (eqb-true _ _ e, not-true _ f)

-- The start's answer and length, and the system that it left.
pub data Begun : Outcome Next → Answered → Type 0 where
  ran : (x : Next) {r : Answered} → is_done r.answer ≡ true → answer_number r.answer ≡ 0 → Ready r.system → sys_view r.system ≡ x.sys
      → Begun (done x) r
  not-ran : (n : ℕ) {r : Answered} → is_done r.answer ≡ false → answer_number r.answer ≡ n → r.system ≡ system_of blank
      → Begun (refused n) r

begun-of : (m : Outcome Next) → Holds (λ (x : Next). well_formed base x.sys ≡ true) m → (answer m ≡ 0 → (x : Next) × (m ≡ done x))
    → (answer m ≡ 0) ⊎ (start_numbers (answer m) ≡ true)
    → Begun m (answered_of (system_of blank) (systems m))
unfolding systems answer answer_of
begun-of (done x) h z w = let f = h.value x refl in
    ran x refl refl (record { laid = image-laid x.sys f; formed = rw (system-back x.sys f) f }) (system-back x.sys f)
begun-of (refused n) h z (inl e) = let y = z e in let q : ◌≡◌ {A = ℕ} 0 1 = cc in absurd (omega arith)
begun-of (refused n) h z (inr e) = let y = number-back n e in not-ran n y.1 y.0 refl

-- ---- a script whose layout is good
module _ (s : List ℕ) (p : Parts versions s) where
  abbrev setup : Setup
  setup = record { kind = p.opening.kind }

  abbrev pub m : Outcome Next
  m = start base setup p.opening.tables p.opening.envelopes

  pub said : replay base versions s ≡ start_line m ++ run_lines base m p.actions
  unfolding replay replayed
  said = rw p.reads

  pub begun : (r : Answered) → r ≡ answered_of (system_of blank) (systems m) → Begun m r
  begun r e = subst (Begun m) (sym e)
      (begun-of m (start-well base setup p.opening.tables p.opening.envelopes)
      (start-done base setup p.opening.tables p.opening.envelopes)
      (start-answers base setup p.opening.tables p.opening.envelopes))

pub number_is : {m : Outcome Next} {r : Answered} → Begun m r → answer_number r.answer ≡ answer m
unfolding answer
number_is (ran x d e f g) = e
number_is (not-ran n d e f) = e

pub size_is : {m : Outcome Next} {r : Answered} → Begun m r → len (net_view r.system.network).entries ≡ size (after blank m)
unfolding size after blank boot
size_is (ran x d e f g) = ap (λ (t : Sys). len t.net.entries) g
size_is (not-ran n d e f) = rw f

pub used-fits : {m : Outcome Next} {r : Answered} → Begun m r → r.system.network.used ≤ most_entries
unfolding blank boot
used-fits {r = r} (ran x d e f g) = net-fits r.system f
used-fits (not-ran n d e f) = rw f (lit≤ tt)

-- the lines after the start's
pub then_runs : {m : Outcome Next} {r : Answered} → Begun m r → is_done r.answer ≡ true → (l : List Action)
    → run_lines base m l ≡ run_text (sys_view r.system) l
unfolding run_lines run_text
then_runs (ran x d e f g) h l = rw g
then_runs (not-ran n d e f) h l = absurd (true≢false (sym h ∙ d))

pub is-ready : {m : Outcome Next} {r : Answered} → Begun m r → is_done r.answer ≡ true → Ready r.system
is-ready (ran x d e f g) h = f
is-ready (not-ran n d e f) h = absurd (true≢false (sym h ∙ d))

pub then-ends : {m : Outcome Next} {r : Answered} → Begun m r → is_done r.answer ≡ false → (l : List Action)
    → run_lines base m l ≡ line done_word (0 ∷ 0 ∷ 0 ∷ [])
unfolding run_lines done_line totals
then-ends (ran x d e f g) h l = absurd (true≢false (sym d ∙ h))
then-ends (not-ran n d e f) h l = refl

-- ---- the start's line, then the others
module _ (s : List ℕ) (p : Parts versions s) (r : Answered) (b : Begun (m s p) r) (write : Bool) (out : List ℕ)
    (room : Fits write 0 (replay base versions s) out)
    (n k : ℕ) (en : n ≡ answer_number r.answer) (ek : k ≡ len (net_view r.system.network).entries) where
  abbrev others : List ℕ
  others = run_lines base (m s p) p.actions

  abbrev first : List ℕ
  first = line start_word (n ∷ k ∷ [])

  first-is : first ≡ start_line (m s p)
  unfolding start_line
  first-is = λ i. line start_word ((en ∙ number_is b) i ∷ (ek ∙ size_is b) i ∷ [])

  all-is : replay base versions s ≡ first ++ others
  all-is = said s p ∙ ap (λ (l : List ℕ). l ++ others) (sym first-is)

  all-fits : Fits write 0 (first ++ others) out
  all-fits = subst (λ (l : List ℕ). Fits write 0 l out) all-is room

  pub first_fits : Fits write 0 first out
  first_fits = fits-first write 0 first others out all-fits

  module _ {at : ℕ} {mid : List ℕ} (q : Piece write 0 first out at mid) where
    others-fit : Fits write at others mid
    others-fit = fits-then first others all-fits q

    joined : {l left : List ℕ} {e : ℕ} → others ≡ l → Piece write at l mid e left → Piece write 0 (replay base versions s) out e left
    joined {l} {left} {e} h t =
        subst (λ (x : List ℕ). Piece write 0 x out e left) (sym all-is)
        (piece_then first others all-fits q (subst (λ (x : List ℕ). Piece write at x mid e left) (sym h) t))

    -- a refused start
    pub ends-fit : is_done r.answer ≡ false → Fits write at (line done_word (0 ∷ 0 ∷ 0 ∷ [])) mid
    ends-fit h = subst (λ (l : List ℕ). Fits write at l mid) (then-ends b h p.actions) others-fit

    pub ends-all : is_done r.answer ≡ false → {left : List ℕ} {e : ℕ} → Piece write at (line done_word (0 ∷ 0 ∷ 0 ∷ [])) mid e left
        → Piece write 0 (replay base versions s) out e left
    ends-all h t = joined (then-ends b h p.actions) t

    -- a start that is done
    pub runs_so : is_done r.answer ≡ true → (from : ℕ) (f : Format) → from ≡ p.next → f ≡ format_of versions p.opening.version → at ≤ 80
        → Runs s from f r.system mid at write
    runs_so h from f e v small = record {
      actions = p.actions;
      left = p.left;
      end = p.place;
      reads = (λ i. actions_from (v i) (drop (e i) s) (e i)) ∙ p.reads_actions;
      fine = subst Fine (sym v) (formats-fine p.opening.version);
      short = p.short;
      ready = is-ready b h;
      fits = subst (λ (l : List ℕ). Fits write at l mid) (then_runs b h p.actions) others-fit;
      small = small;
    }

    pub runs-all : is_done r.answer ≡ true → {left : List ℕ} {e : ℕ} → Piece write at (run_text (sys_view r.system) p.actions) mid e left
        → Piece write 0 (replay base versions s) out e left
    runs-all h t = joined (then_runs b h p.actions) t

-- The output of a good layout is no longer than the bound.
pub good-longest : (s : List ℕ) (p : Parts versions s) → length (replay base versions s) ≤ longest (length s)
good-longest s p =
    subst (λ (l : List ℕ). length l ≤ longest (length s)) (sym (said s p))
    (whole-short (format_of versions p.opening.version) (m s p) s p.next p.actions
    (start-well base (setup s p) p.opening.tables p.opening.envelopes)
    (start-answers base (setup s p) p.opening.tables p.opening.envelopes) p.short p.reads_actions)

-- ---- a script whose layout is bad
said-bad : (s : List ℕ) (p : ℕ) → layout_of (read_script versions s) ≡ Err (record { 0 = p }) → replay base versions s ≡ line bad_word (p ∷ [])
unfolding replay replayed
said-bad s p e = go (read_script versions s) e
  where
    go : (x : Reading _) → layout_of x ≡ Err (record { 0 = p }) → replayed base x ≡ line bad_word (p ∷ [])
    go (read a ys q) h = let z : ◌≡◌ {A = ℕ} 0 1 = cc in absurd (omega arith)
    go (bad_at q) h = let z : q ≡ p = same_place h in rw z

-- ---- the buffer
pub told-bad : (s : List ℕ) (p : ℕ) {out left : List ℕ} {r : ℕ} → layout_of (read_script versions s) ≡ Err (record { 0 = p })
    → Told (line bad_word (p ∷ [])) out r left
    → Told (replay base versions s) out r left
told-bad s p {out} {left} {r} e t = subst (λ (l : List ℕ). Told l out r left) (sym (said-bad s p e)) t

pub told-all : {l out left : List ℕ} {r : ℕ} → Piece true 0 l out r left → length l ≤ length out → Told l out r left
unfolding put choose
told-all {l} {out} {left} {r} p h =
    let e : r ≡ length l = omega (arith, p.next) in
    let z : 0 + length l ≡ length l = omega arith in
    record { size = e; bytes = p.bytes ∙ rw (z, e, le-leb (length l) (length out) h) }

-- measured, and then written or not
module _ {l out mid : List ℕ} {k : ℕ} (p : Piece false 0 l out k mid) where
  untouched : mid ≡ out
  unfolding put choose
  untouched = p.bytes

  pub told-after : {left : List ℕ} {r : ℕ} → k ≤ length mid → Piece true 0 l mid r left → Told l out r left
  told-after {left} {r} h q = subst (λ (o : List ℕ). Told l o r left) untouched (told-all q (omega (arith, h, p.next)))

  pub told_none : length mid < k → Told l out k mid
  unfolding choose
  told_none h = record { size = omega (arith, p.next); bytes = untouched ∙ rw (lt-leb k (length out) (omega (arith, h, ap length untouched))) }
