-- Why a run writes what it should: each turn reads one action more, the rows take the rules' step, and its line is the next of what is
-- left to write.
-- Assumes nothing.
use Prim.Native.Nat.{ℕ, ◌+◌, ◌*◌, ◌≤◌, ◌<◌}
use native.Mathlib.Omega.{arith}
use mathlib.Core.Path.{◌≡◌, sym, ap, ◌∙◌, subst}
use mathlib.Core.Bool.{Bool, true}
use mathlib.Core.List.{List, [], ◌∷◌, ◌++◌, append_assoc}
use lib.ListN.{length, drop}
use Rattle.types.specs.Capacities.{most_entries}
use Rattle.types.specs.declared.Action.{Action}
use Rattle.types.specs.declared.Format.{Format}
use Rattle.types.specs.declared.Kind.{Kind}
use Rattle.std.specs.Prelude.{Option}
use Rattle.answers.specs.Answers.{Answer}
use Rattle.answers.specs.Answers.{answer_number}
use Rattle.layout.specs.Read.{read, one}
use Rattle.rules.specs.Outcome.{base}
use Rattle.rules.specs.System.{Sys}
use Rattle.rules.specs.Run.{counted}
use Rattle.rules.specs.WellFormed.{well_formed}
use Rattle.rules.specs.Script.{action_form, actions_from}
use Rattle.rules.specs.Program.{answer_line, size, line, done_word}
use Rattle.net_rows.specs.declared.Sent.{Sent}
use Rattle.std.specs.Prelude.{Some, None, Ok, Err}
use Rattle.script_places.specs.declared.BadAt.{BadAt}
use Rattle.script_records.specs.Views.{action_read}
use Rattle.replay_lines.specs.Pieces.{Fits, Piece}
use Rattle.replay_lines.proofs.Laws.{none, length-left, fits-first, fits-then, piece_then}
use Rattle.sys_system.specs.declared.System.{System}
use Rattle.sys_system.proofs.Laws.{net-ready}
use Rattle.sys_answered.specs.Views.{Ready}
use Rattle.sys_all_rows.specs.Views.{Hall, Books, sys_of, Stands, Moved}
use Rattle.replay_run.specs.declared.Tally.{Tally}
use Rattle.replay_run.specs.Views.{run_text, totals_in, tallied}
use Rattle.replay_run.specs.Plays.{Plays}
use Rattle.replay_run.proofs.Totals.{rest_text, rest-start, rest-next, rest_end, sum-counted}
use Rattle.replay_run.proofs.Actions.{Acts, acts, ends, never}
use Rattle.replay_run.proofs.Steps.{Took, took-formed, took, last_now}
use Rattle.types.specs.declared.Envelope.{Envelope}

-- The network of a system that is ready fits its array.
pub net-fits : (s : System) → Ready s → s.network.used ≤ most_entries
net-fits s r = (net-ready s r.laid r.formed).laid.fit

-- ---- after some actions
-- Of the whole text some was written: the system now, and what is left to do.
pub record Turn (script : List ℕ) (f : Format) (whole out₀ : List ℕ) (place : ℕ) (write : Bool) (m : Sys) (t : Tally) (at end : ℕ)
    (out : List ℕ) : Type 0 where
  pub formed : well_formed base m ≡ true
  pub actions : List Action
  pub left : List ℕ
  pub stop : ℕ
  pub reads : actions_from f (drop at script) at ≡ read actions left stop
  pub fits : Fits write place whole out₀
  pub told : List ℕ
  pub piece : Piece write place told out₀ end out
  pub same : whole ≡ told ++ rest_text m (totals_in t) actions
  pub few : t.next + t.ignored + t.refused ≤ at
  pub wide : end ≤ 80 + 80 * at

module _ {script : List ℕ} {f : Format} {whole out₀ : List ℕ} {place : ℕ} {write : Bool} {m : Sys} {t : Tally} {at end : ℕ} {out : List ℕ}
    (g : Turn script f whole out₀ place write m t at end out) where
  abbrev rest : List ℕ
  rest = rest_text m (totals_in t) g.actions

  room : Fits write place (g.told ++ rest) out₀
  room = subst (λ (l : List ℕ). Fits write place l out₀) g.same g.fits

  -- what is left to write fits
  left-fits : Fits write end rest out
  left-fits = fits-then g.told rest room g.piece

  pub kept-length : length out ≡ length out₀
  kept-length = length-left (fits-first write place g.told rest out₀ room) g.piece

  -- ---- one action more
  module _ (a : Action) (r : ℕ) (seen : action_read (one (action_form f) (drop at script) at) ≡ Ok (Some a, r)) where
    abbrev pub going : Acts f script at g.left g.stop g.actions a r
    going = acts f script at a r g.reads seen

    module _ (k : Answer) (m' : Sys) (step_is : Took m a k m') where
      abbrev text : List ℕ
      text = answer_line (answer_number k) (size m')

      abbrev later : List ℕ
      later = rest_text m' (totals_in (tallied (answer_number k) t)) going.more

      -- What is left to write: this line, and then what is left after it.
      splits : rest ≡ text ++ later
      splits =
          ap (rest_text m (totals_in t)) going.all ∙ rest-next m (totals_in t) a going.more
          ∙ sym (λ j. answer_line (step_is.number j) (size (step_is.view j))
          ++ rest_text (step_is.view j) (counted (step_is.number j) (totals_in t)) going.more)

      pub line-fits : Fits write end text out
      line-fits = fits-first write end text later out (subst (λ (l : List ℕ). Fits write end l out) splits left-fits)

      so_far : whole ≡ (g.told ++ text) ++ later
      so_far = g.same ∙ ap (λ (l : List ℕ). g.told ++ l) splits ∙ sym (append_assoc g.told text later)

      pub turn_on : {e : ℕ} {out' : List ℕ} → Piece write end text out e out' → e ≤ end + 80
          → Turn script f whole out₀ place write m' (tallied (answer_number k) t) r e out'
      turn_on {e} p h = record {
        formed = took-formed step_is g.formed;
        actions = going.more;
        left = g.left;
        stop = g.stop;
        reads = going.reads;
        fits = g.fits;
        told = g.told ++ text;
        piece = piece_then g.told text
            (fits-first write place (g.told ++ text) later out₀ (subst (λ (l : List ℕ). Fits write place l out₀) so_far g.fits))
            g.piece p;
        same = so_far;
        few = omega (arith, g.few, going.on, sum-counted (answer_number k) t);
        wide = omega (arith, g.wide, going.on, h);
      }

  -- ---- the end
  module _ (r : ℕ) (seen : action_read (one (action_form f) (drop at script) at) ≡ Ok (None, r)) where
    abbrev pub over : (g.actions ≡ []) × (at < length script)
    over = ends f script at r g.reads seen

    abbrev pub closing : List ℕ
    closing = line done_word (t.next ∷ t.ignored ∷ t.refused ∷ [])

    closes : rest ≡ closing
    closes = ap (rest_text m (totals_in t)) over.0 ∙ rest_end m (totals_in t)

    pub end_fits : Fits write end closing out
    end_fits = subst (λ (l : List ℕ). Fits write end l out) closes left-fits

    pub turn_end : {e : ℕ} {out' : List ℕ} → Piece write end closing out e out' → Piece write place whole out₀ e out'
    turn_end {e} {out'} p =
        let w : whole ≡ g.told ++ closing = g.same ∙ ap (λ (z : List ℕ). g.told ++ z) closes in
        subst (λ (z : List ℕ). Piece write place z out₀ e out') (sym w)
        (piece_then g.told closing (subst (λ (z : List ℕ). Fits write place z out₀) w g.fits) g.piece p)

  pub no-bad : (d : BadAt) → action_read (one (action_form f) (drop at script) at) ≡ Err d → ⊥
  no-bad r e = never f script at r g.reads e

-- ---- the same of rows: no row holds the last message, so it is one that there is
pub record Going (script : List ℕ) (f : Format) (whole out₀ : List ℕ) (place : ℕ) (write : Bool) (count : ℕ) (kind : Kind) (used n : ℕ) (b : Books)
    (cs : List (List ℕ)) (h : Hall) (t : Tally) (at end : ℕ) (out : List ℕ) : Type 0 where
  pub stands : Stands count kind used n b cs h
  pub last : Option Envelope
  pub turn : Turn script f whole out₀ place write (sys_of count kind last cs used b h) t at end out

pub starts : {script : List ℕ} {from : ℕ} {f : Format} {out : List ℕ} {place : ℕ} {write : Bool} {count : ℕ} {kind : Kind} {used n : ℕ} {b : Books}
    {cs : List (List ℕ)} {h : Hall} (p : Plays script from f out place write count kind used n b cs h)
    → Going script f (run_text (sys_of count kind p.last cs used b h) p.actions) out place write count kind used n b cs h
    (record { next = 0; ignored = 0; refused = 0 }) from place out
starts p = record {
  stands = p.stands;
  last = p.last;
  turn = record {
    formed = p.formed;
    actions = p.actions;
    left = p.left;
    stop = p.end;
    reads = p.reads;
    fits = p.fits;
    told = [];
    piece = none;
    same = rest-start _ p.actions;
    few = omega arith;
    wide = omega (arith, p.small);
  };
}

module _ {script : List ℕ} {f : Format} {whole out₀ : List ℕ} {place : ℕ} {write : Bool} {count : ℕ} {kind : Kind} {used n : ℕ} {b : Books}
    {cs : List (List ℕ)} {h : Hall} {t : Tally} {at end : ℕ} {out : List ℕ}
    (g : Going script f whole out₀ place write count kind used n b cs h t at end out)
    (a : Action) (r : ℕ) (seen : action_read (one (action_form f) (drop at script) at) ≡ Ok (Some a, r))
    (s : Sent) (cs' : List (List ℕ)) (h' : Hall) (mv : Moved count a kind used n b cs h s cs' h') where
  step_is : Took (sys_of count kind g.last cs used b h) a s.answer (sys_of count kind (last_now mv g.last g.turn.formed) cs' s.used b h')
  step_is = took mv g.last g.turn.formed

  abbrev now : Sys
  now = sys_of count kind (last_now mv g.last g.turn.formed) cs' s.used b h'

  -- The messages are counted.
  counts : size now ≡ s.len
  unfolding size
  counts = let c = (mv.stands.fine 0 mv.stands.one).net.laid.sum in sym c

  pub move-fits : Fits write end (answer_line (answer_number s.answer) s.len) out
  move-fits = subst (λ (k : ℕ). Fits write end (answer_line (answer_number s.answer) k) out) counts (line-fits g.turn a r seen s.answer now step_is)

  pub move-on : {e : ℕ} {out' : List ℕ} → Piece write end (answer_line (answer_number s.answer) s.len) out e out' → e ≤ end + 80
      → Going script f whole out₀ place write count kind s.used s.len b cs' h' (tallied (answer_number s.answer) t) r e out'
  move-on {e} {out'} p w = record {
    stands = mv.stands;
    last = last_now mv g.last g.turn.formed;
    turn = turn_on g.turn a r seen s.answer now step_is
        (subst (λ (k : ℕ). Piece write end (answer_line (answer_number s.answer) k) out e out') (sym counts) p) w;
  }
