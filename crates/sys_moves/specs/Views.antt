-- What a step leaves of cells and rows.
-- Assumes nothing.
use Rattle.std.specs.Prelude.{ℕ, ◌≤◌, ◌≡◌, true, false, List, [], ◌∷◌, ◌++◌, length, get_or, Option}
use Rattle.types.specs.Capacities.{most_entries, most_pending}
use Rattle.types.specs.declared.Id.{Id}
use Rattle.types.specs.declared.Number.{Number}
use Rattle.types.specs.declared.Kind.{Kind}
use Rattle.types.specs.declared.Action.{Action}
use Rattle.types.specs.declared.Action.TheVariants.{Deliver, Drop, Timeout, Crash, Recover}
use Rattle.types.specs.declared.Rule.{Rule}
use Rattle.types.specs.declared.Envelope.{Envelope}
use Rattle.types.specs.declared.Message.TheVariants.{Ack}
use Rattle.types.specs.declared.InnerCommand.{InnerCommand}
use Rattle.answers.specs.Answers.{Answer}
use Rattle.answers.specs.Answers.{answer_of, answer_number, is_done}
use Rattle.rules.specs.Outcome.{Outcome, done, refused, bind, Caps}
use Rattle.rules.specs.Network.{Net, on_deliver}
use Rattle.rules.specs.Link.{Durable, Command, Send, Save, acked, with_taken, output}
use Rattle.rules.specs.System.{Actor, Sys, systems, run_commands, perform, wake, act}
use Rattle.link_timers.specs.Views.{listed}
use Rattle.net_rows.specs.declared.Sent.{Sent}
use Rattle.net_rows.specs.Views.{last_after, net_of, room_of, NetReady}
use Rattle.link_direct.specs.Direct.{sends}
use Rattle.link_tables.specs.Rows.{mark}
use Rattle.link_rows.specs.Rows.{durable_in}
use Rattle.sys_seat.specs.Seat.{Around, holding}
use Rattle.sys_reacts.specs.Views.{limits_of, refusal_of}
use Rattle.sys_rows.specs.declared.ActorRows.{ActorRows}
use Rattle.sys_rows.specs.declared.NetRows.{NetRows}
use Rattle.sys_rows.specs.Rows.{stored_in, actor_of, RowsLaid}

-- The room is the cells', the places are the rows'.
abbrev pub caps_of : List (List ℕ) → Caps
caps_of cs = record { room = room_of cs; limits = limits_of most_pending }

-- The rows of a step: cells, live row and its records, stored row and its records.
pub record Rows : Type 0 where
  pub cells : List (List ℕ)
  pub live : List ℕ
  pub pend : List (List ℕ)
  pub kept : List ℕ
  pub stored : List (List ℕ)

abbrev pub rows_of : List (List ℕ) → List ℕ → List (List ℕ) → List ℕ → List (List ℕ) → Rows
rows_of c w p k q = record { cells = c; live = w; pend = p; kept = k; stored = q }

-- Cells, and the rows of one actor.
abbrev pub rows_in : List (List ℕ) → ActorRows → Rows
rows_in c x = rows_of c x.live x.pend x.kept x.stored

abbrev pub actor_at : List Rule → Rows → Actor
actor_at rs x = actor_of rs x.live x.pend x.kept x.stored

-- A system with the network and the actor that the rows are.
abbrev pub sys_at : (me : Id) → Around me → Kind → Option Envelope → ℕ → List Rule → Rows → Sys
sys_at me hall kind last used rs x = holding me hall (net_of kind last x.cells used) (actor_at rs x)

-- The actor of the rows, but with these timers, this durable part and this state.
abbrev pub actor_with : List Rule → ℕ → Durable → ℕ → Rows → Actor
actor_with rs t d s x = record {
  rules = rs;
  crashed = mark (get_or x.live 5 0);
  timers = listed t;
  link = record { durable = d; state = s };
  storage = stored_in (get_or x.kept 5 0) (durable_in x.kept x.stored);
}

-- ---- what happens to the rows
-- Commands run, with this network, these timers, this durable part and this state.
abbrev pub running : (me : Id) → Around me → List Command → Net → List Rule → ℕ → Durable → ℕ → Rows → Outcome Sys
running me hall cs n rs t d s x = run_commands (room_of x.cells) me cs (holding me hall n (actor_with rs t d s x))

-- An inner actor's commands: the output of the link, and its commands run.
abbrev pub reacting : (me : Id) → Kind → List InnerCommand → ℕ → ℕ → ℕ → Rows → Around me → Option Envelope → List Rule → Outcome Sys
reacting me kind os t s used x hall last rs = bind (output (limits_of most_pending) me (durable_in x.live x.pend) os)
    (λ o. running me hall o.commands (net_of kind last x.cells used) rs t o.durable s x)

-- An Ack: out of the network, and its record gone, which is saved.
abbrev pub acked_in : Kind → (e : Envelope) → Number → ℕ → Rows → Around e.dst → Option Envelope → List Rule → Outcome Sys
acked_in kind e v used x hall last rs = bind (on_deliver e (net_of kind last x.cells used)) (λ n.
    running e.dst hall (Save (acked v (durable_in x.live x.pend)) ∷ []) n rs (get_or x.live 6 0)
    (acked v (durable_in x.live x.pend)) (get_or x.live 7 0) x)

-- A message that is acked, and nothing more.
abbrev pub passed_by : Kind → (e : Envelope) → Number → ℕ → Rows → Around e.dst → Option Envelope → List Rule → Outcome Sys
passed_by kind e v used x hall last rs = bind (on_deliver e (net_of kind last x.cells used)) (λ n.
    run_commands (room_of x.cells) e.dst (Send e.src (Ack v) ∷ []) (holding e.dst hall n (actor_at rs x)))

-- A message that is taken: out of the network, its Ack, the inner actor's commands, and all of it saved.
abbrev pub taken_in : Kind → (e : Envelope) → Number → List InnerCommand → ℕ → ℕ → Rows → Around e.dst → Option Envelope → List Rule
    → Outcome Sys
taken_in kind e v os s used x hall last rs =
    bind (on_deliver e (net_of kind last x.cells used)) (λ n.
    bind (output (limits_of most_pending) e.dst (with_taken e.src v (durable_in x.live x.pend)) os) (λ o.
    running e.dst hall (Send e.src (Ack v) ∷ (o.commands ++ Save o.durable ∷ [])) n rs (get_or x.live 6 0) o.durable s x))

-- 6 and 7 of so many commands, by what a live row has left.
pub record Decided (w : List ℕ) (os : List InnerCommand) (why : Answer) : Type 0 where
  pub told : why ≡ answer_of (refusal_of (get_or w 0 0) (get_or w 1 0) most_pending (sends os))
  pub most : get_or w 0 0 ≤ 18446744073709551615

-- ---- what a step asks of the rows, and leaves
pub record Fine (kind : Kind) (used n : ℕ) (x : Rows) : Type 0 where
  pub net : NetReady kind x.cells used n
  pub room : length x.cells ≡ most_entries
  pub live : RowsLaid x.live x.pend
  pub kept : RowsLaid x.kept x.stored

-- Done: every system that held the rows holds them as the outcome says; else the answer is the outcome's, and everything is as it was.
pub record Acted (me : Id) (o : Around me → Option Envelope → List Rule → Outcome Sys) (after : Option Envelope → Option Envelope) (kind : Kind) (used n : ℕ)
    (x : Rows)
    (r : Sent) (x' : Rows) : Type 0 where
  pub fine : Fine kind r.used r.len x'
  pub runs : is_done r.answer ≡ true → (hall : Around me) (last : Option Envelope) (rs : List Rule)
      → o hall last rs ≡ done (sys_at me hall kind (after last) r.used rs x')
  pub stops : is_done r.answer ≡ false → (hall : Around me) (last : Option Envelope) (rs : List Rule) → o hall last rs
      ≡ refused (answer_number r.answer)
  pub same : is_done r.answer ≡ false → (x' ≡ x) × (r.used ≡ used) × (r.len ≡ n)

-- ---- a whole action, or a start: the same among so many actors, with these rules
pub record Ended (me : Id) (count : ℕ) (rs : List Rule) (o : Around me → Option Envelope → Outcome Sys) (after : Option Envelope → Option Envelope)
    (kind : Kind) (used n : ℕ) (x : Rows) (r : Sent) (x' : Rows) : Type 0 where
  pub fine : Fine kind r.used r.len x'
  pub runs : is_done r.answer ≡ true → (hall : Around me) → length hall.sys.actors ≡ count → (last : Option Envelope)
      → o hall last ≡ done (sys_at me hall kind (after last) r.used rs x')
  pub stops : is_done r.answer ≡ false → (hall : Around me) → length hall.sys.actors ≡ count → (last : Option Envelope)
      → o hall last ≡ refused (answer_number r.answer)
  pub same : is_done r.answer ≡ false → (x' ≡ x) × (r.used ≡ used) × (r.len ≡ n)

-- ---- the same of a network and an actor that are lent, and of an answer: the kind stays
abbrev pub FineIn : NetRows → ActorRows → Type 0
FineIn m x = Fine m.kind m.used m.len (rows_in m.cells x)

abbrev pub sent_in : Answer → NetRows → Sent
sent_in a m = record { answer = a; used = m.used; len = m.len }

pub record ActedIn (me : Id) (o : Around me → Option Envelope → List Rule → Outcome Sys) (after : Option Envelope → Option Envelope)
    (m : NetRows) (x : ActorRows) (a : Answer) (m' : NetRows) (x' : ActorRows) : Type 0 where
  pub rows : Acted me o after m.kind m.used m.len (rows_in m.cells x) (sent_in a m') (rows_in m'.cells x')
  pub kind : m'.kind ≡ m.kind

pub record EndedIn (me : Id) (count : ℕ) (rs : List Rule) (o : Around me → Option Envelope → Outcome Sys) (after : Option Envelope → Option Envelope)
    (m : NetRows) (x : ActorRows) (a : Answer) (m' : NetRows) (x' : ActorRows) : Type 0 where
  pub rows : Ended me count rs o after m.kind m.used m.len (rows_in m.cells x) (sent_in a m') (rows_in m'.cells x')
  pub kind : m'.kind ≡ m.kind

-- The last message after an action that is done.
unfoldable pub last_then : Kind → Action → Option Envelope → Option Envelope
last_then kind (Deliver e) last = last_after kind e last
last_then kind (Drop e) last = last
last_then kind (Timeout i t) last = last
last_then kind (Crash i) last = last
last_then kind (Recover i) last = last

abbrev pub Stepped : ℕ → Action → Id → List Rule → Kind → ℕ → ℕ → Rows → Sent → Rows → Type 0
Stepped count a me rs kind used n x r x' =
    Ended me count rs (λ hall last. systems (act (caps_of x.cells) (sys_at me hall kind last used rs x) a)) (last_then kind a) kind used n x r x'

abbrev pub Woken : ℕ → Id → List Rule → Kind → ℕ → ℕ → Rows → Sent → Rows → Type 0
Woken count me rs kind used n x r x' =
    Ended me count rs (λ hall last. systems (bind (wake (limits_of most_pending) me (sys_at me hall kind last used rs x)) (perform (room_of x.cells))))
    (λ last. last) kind used n x r x'

-- ---- both of what is lent
pub record SteppedIn (count : ℕ) (a : Action) (me : Id) (rs : List Rule) (m : NetRows) (x : ActorRows) (r : Answer) (m' : NetRows)
    (x' : ActorRows) : Type 0 where
  pub rows : Stepped count a me rs m.kind m.used m.len (rows_in m.cells x) (sent_in r m') (rows_in m'.cells x')
  pub kind : m'.kind ≡ m.kind

pub record WokenIn (count : ℕ) (me : Id) (rs : List Rule) (m : NetRows) (x : ActorRows) (r : Answer) (m' : NetRows) (x' : ActorRows) : Type 0 where
  pub rows : Woken count me rs m.kind m.used m.len (rows_in m.cells x) (sent_in r m') (rows_in m'.cells x')
  pub kind : m'.kind ≡ m.kind
