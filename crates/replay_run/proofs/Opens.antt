-- A system laid out: its rows can be played on, and what is written then is what the run promises.
-- Assumes nothing.
use Prim.Native.Nat.{ℕ}
use mathlib.Core.Path.{◌≡◌, sym, ap, ◌∙◌, subst}
use mathlib.Core.Bool.{Bool}
use mathlib.Core.List.{List}
use Rattle.types.specs.declared.Format.{Format}
use Rattle.layout.specs.Read.{read}
use Rattle.rules.specs.Outcome.{base}
use Rattle.rules.specs.Network.{len}
use Rattle.rules.specs.System.{Sys}
use Rattle.rules.specs.WellFormed.{well_formed}
use Rattle.net_layout.specs.Layout.{LaidOut}
use Rattle.net_network.specs.Views.{entry_list}
use Rattle.replay_lines.specs.Pieces.{Fits, Piece}
use Rattle.sys_system.specs.declared.System.{System}
use Rattle.sys_system.specs.Views.{sys_view}
use Rattle.sys_all_rows.specs.Views.{Hall, Books, sys_of, ActorsLaid, TablesLaid}
use Rattle.sys_all_rows.proofs.Opens.{opens, opens-view}
use Rattle.replay_run.specs.Views.{run_text, Runs, Writes}
use Rattle.replay_run.specs.Plays.{Plays, Played}

module _ {script : List ℕ} {from : ℕ} {f : Format} {s : System} {out : List ℕ} {place : ℕ} {write : Bool} (g : Runs script from f s out place write)
    (cs : List (List ℕ)) (cells : LaidOut (entry_list s.network) cs) (n : ℕ) (sum : n ≡ len (entry_list s.network))
    (h : Hall) (al : ActorsLaid s.actors s.count h) (b : Books) (tl : TablesLaid s.tables s.count b) where
  view : sys_of s.count s.network.kind s.network.last cs s.network.used b h ≡ sys_view s
  view = opens-view s g.ready.laid g.ready.formed cs cells n sum h al b tl

  pub plays : Plays script from f out place write s.count s.network.kind s.network.used n b cs h
  plays = record {
    stands = opens s g.ready.laid g.ready.formed cs cells n sum h al b tl;
    last = s.network.last;
    formed = ap (well_formed base) view ∙ g.ready.formed;
    actions = g.actions;
    left = g.left;
    end = g.end;
    reads = g.reads;
    fine = g.fine;
    short = g.short;
    fits = subst (λ (m : Sys). Fits write place (run_text m g.actions) out) (sym view) g.fits;
    small = g.small;
  }

  -- There is one list of actions that is read.
  pub writes : {end : ℕ} {left : List ℕ} → Played script from f out place write s.count s.network.kind s.network.used n b cs h end left
      → Writes script from f s out place write end left
  unfolding plays
  writes {end} {left} p l ys q e =
      let o : read g.actions g.left g.end ≡ read l ys q = sym g.reads ∙ e in
      let x : g.actions ≡ l = cc in
      subst (λ (t : List ℕ). Piece write place t out end left) (λ j. run_text (view j) (x j)) (p plays)
