-- Actors woken in turn: each on fresh rows, as the rules wake it in the system.
-- Assumes nothing.
use Prim.Native.Nat.{ℕ, suc, ◌≤◌, ◌<◌}
use native.Mathlib.Omega.{arith}
use mathlib.Core.Path.{◌≡◌, refl, sym, ap, ap₂, subst, ◌∙◌}
use mathlib.Core.Bool.{true, false}
use mathlib.Core.List.{List, [], ◌∷◌, ◌++◌, map, append_assoc, append-nil}
use lib.ListN.{length, take, drop, get_or, set, length-map, length-append, drop_of_length-le}
use lib.Seq.{drop-cons, take-suc, get_or-take, length-take-le}
use Rattle.types.specs.Capacities.{most_actors, most_entries}
use Rattle.lists.specs.Lists.{◌∈◌, pad}
use Rattle.lists.proofs.Members.{all_in, get_in}
use Rattle.lists.proofs.Places.{append-pad, map_get}
use Rattle.types.specs.declared.Id.{Id}
use Rattle.types.specs.declared.Kind.{Kind}
use Rattle.types.specs.declared.Rule.{Rule}
use Rattle.std.specs.Prelude.{Option, None}
use Rattle.types.specs.declared.Envelope.{Envelope}
use Rattle.answers.specs.Answers.{Done}
use Rattle.answers.specs.Answers.{answer_of, is_done}
use Rattle.answers.proofs.Numbers.{number-answer}
use Rattle.rules.specs.Outcome.{Outcome, done, refused, bind, Caps, base}
use Rattle.rules.specs.Network.{Net}
use Rattle.rules.specs.System.{Sys, Next, systems, ended, unstarted, perform, wake}
use Rattle.rules.specs.System as rules
use Rattle.rules.specs.Start.{joined, wake_all, blank}
use Rattle.rules.proofs.Laws.{woken}
use Rattle.net_rows.specs.declared.Sent.{Sent}
use Rattle.net_rows.specs.Views.{net_of, room_of, NetReady}
use Rattle.net_network.specs.Parts.{read_back}
use Rattle.net_network.proofs.Changes.{read_is}
use Rattle.link_inner.specs.declared.Table.{Table}
use Rattle.link_inner.specs.Views.{rules_of, table_ok, zero_table}
use Rattle.sys_actor.specs.declared.Actor.{Actor}
use Rattle.sys_actor.specs.Views.{actor_view, actor_as, ActorLaid, zero_actor}
use Rattle.sys_seat.specs.Seat.{Around, holding}
use Rattle.sys_rows.specs.Rows.{fresh_rows}
use Rattle.sys_rows.proofs.Fresh.{fresh-laid, zero-laid, fresh-actor}
use Rattle.sys_layout.proofs.Back.{no-rules, read-actor, read-laid}
use Rattle.sys_moves.specs.Views.{Rows, rows_in, actor_at, sys_at, Fine}
use Rattle.sys_moves.specs.Views as moves
use Rattle.sys_system.specs.declared.System.{System}
use Rattle.sys_system.specs.Views.{seated, system_of, table_for}
use Rattle.sys_answered.specs.declared.Answered.{Answered}
use Rattle.sys_answered.specs.Views.{answered_of}
use Rattle.sys_start.specs.Views.{tables_view, sys_on, waking, Wakes, Awaiting, asleep, waking_all}

-- ---- the rules' wakes without commands and events
joins : (o : Outcome Next) (x : Next) → systems (bind o (joined x)) ≡ systems o
unfolding bind joined systems
joins (done y) x = refl
joins (refused k) x = refl

wakes-bound : (c : Caps) (i : ℕ) (more : List rules.Actor) (o : Outcome Next)
    → systems (bind o (λ x. bind (wake_all c (suc i) more x.sys) (joined x))) ≡ bind (systems o) (λ s. systems (wake_all c (suc i) more s))
unfolding bind systems
wakes-bound c i more (done x) = joins (wake_all c (suc i) more x.sys) x
wakes-bound c i more (refused k) = refl

wakes-cons : (c : Caps) (i : ℕ) (a : rules.Actor) (more : List rules.Actor) (s : Sys)
    → systems (wake_all c i (a ∷ more) s) ≡ bind (systems (woken c (record { 0 = i }) s)) (λ t. systems (wake_all c (suc i) more t))
unfolding wake_all
wakes-cons c i a more s = wakes-bound c i more (woken c (record { 0 = i }) s)

-- ---- one actor, on fresh rows
module _ (k : Kind) (used n : ℕ) (cs : List (List ℕ)) (net : NetReady k cs used n) (room : length cs ≡ most_entries) where
  abbrev x : Rows
  x = rows_in cs fresh_rows

  pub fresh-fine : Fine k used n x
  fresh-fine = record { net = net; room = room; live = fresh-laid fresh_rows.pend refl; kept = zero-laid fresh_rows.stored refl }

  module _ (t : Table) (me : Id) (rs : List Rule) (same : rs ≡ rules_of t) (s : Sent) (y : Rows)
      (w : (count : ℕ) → moves.Woken count me rs k used n x s y) where
    -- The actor that the rows are is the unstarted one.
    came : (hall : Around me) (last : Option Envelope) → sys_at me hall k last used rs x ≡ holding me hall (net_of k last cs used) (unstarted (rules_of t))
    came hall last =
        let e = fresh-actor rs fresh_rows.pend fresh_rows.kept fresh_rows.stored refl ∙ ap unstarted same in
        λ j. holding me hall (net_of k last cs used) (e j)

    wakes-here : (hall : Around me) (last : Option Envelope) → waking me hall (net_of k last cs used) t
        ≡ systems (bind (wake base.limits me (sys_at me hall k last used rs x)) (perform (room_of cs)))
    wakes-here hall last =
        let e = came hall last in
        λ j. systems (bind (wake base.limits me (sym e j)) (perform (record { entries = sym room j; copies = base.room.copies })))

    module _ (b : Actor) (own : b ≡ actor_as (actor_at [] y)) where
      actor-is : b ≡ actor_as (actor_at rs y)
      actor-is = own ∙ no-rules rs y.live y.pend y.kept y.stored

      left : (hall : Around me) (last : Option Envelope)
          → sys_at me hall k last s.used rs y ≡ holding me hall (net_of k last y.cells s.used) (seated t b)
      left hall last =
          let f = sym (ap (seated t) actor-is ∙ ap (λ (l : List Rule). actor_view l (actor_as (actor_at rs y))) (sym same)
          ∙ read-actor rs y.live y.pend y.kept y.stored) in
          λ j. holding me hall (net_of k last y.cells s.used) (f j)

      pub wakes : Wakes k used t me cs s b y.cells
      wakes =
          let f = (w 0).fine in
          record {
            net = f.net;
            room = f.room;
            actor = subst ActorLaid (sym actor-is) (read-laid rs y.live y.pend y.kept y.stored);
            runs = λ h hall last. wakes-here hall last ∙ (w (length hall.sys.actors)).runs h hall refl last ∙ ap done (left hall last);
            stops = λ h hall last. wakes-here hall last ∙ (w (length hall.sys.actors)).stops h hall refl last;
          }

-- ---- lists
map-append : {A B : Type 0} (f : A → B) (l m : List A) → map f (l ++ m) ≡ map f l ++ map f m
map-append f [] m = refl
map-append {B = B} f (a ∷ l) m = ap (λ (r : List B). f a ∷ r) (map-append f l m)

-- In the place behind l stands a; another is put there.
set-behind : {A : Type 0} (l m : List A) (a b : A) → set (l ++ a ∷ m) (length l) b ≡ (l ++ b ∷ []) ++ m
set-behind [] m a b = refl
set-behind {A = A} (c ∷ l) m a b = ap (λ (r : List A). c ∷ r) (set-behind l m a b)

-- ---- all of them
-- After i actors, which are bs now: the rest from here gives what all of them give from the start.
pub record Waking (k : Kind) (cs₀ : List (List ℕ)) (used₀ count : ℕ) (tables : List Table) (cs : List (List ℕ)) (used n : ℕ) (actors : List Actor)
    (i : ℕ) : Type 0 where
  pub bs : List rules.Actor
  pub many : length bs ≡ i
  pub net : NetReady k cs used n
  pub room : length cs ≡ most_entries
  pub structs : actors ≡ pad most_actors zero_actor (map actor_as bs)
  pub owns : map table_for bs ≡ take i tables
  pub same : waking_all k cs₀ used₀ count tables
      ≡ systems (wake_all base i (drop i (asleep count tables)) (sys_on k cs used (bs ++ drop i (asleep count tables))))

module _ (k : Kind) (cs₀ : List (List ℕ)) (used₀ n₀ count : ℕ) (tables : List Table) (a : Awaiting k cs₀ used₀ n₀ count tables)
    (size : length tables ≡ most_actors) where
  abbrev all-asleep : List rules.Actor
  all-asleep = asleep count tables

  abbrev Along : List (List ℕ) → ℕ → ℕ → List Actor → ℕ → Type 0
  Along cs used n actors i = Waking k cs₀ used₀ count tables cs used n actors i

  pub wakes-begin : (actors : List Actor) → actors ≡ pad most_actors zero_actor [] → Along cs₀ used₀ n₀ actors 0
  wakes-begin actors e = record {
    bs = [];
    many = refl;
    net = a.net;
    room = a.room;
    structs = e;
    owns = refl;
    same = refl;
  }

  counted : length (take count tables) ≡ count
  counted = let f = a.few in length-take-le count tables (omega arith)

  asleep-many : length all-asleep ≡ count
  asleep-many = length-map (tables_view count tables) unstarted ∙ length-map (take count tables) rules_of ∙ counted

  module _ (cs : List (List ℕ)) (used n : ℕ) (actors : List Actor) (i : ℕ) (g : Along cs used n actors i) (h : i < count) (z : Table) where
    abbrev t : Table
    t = get_or tables i z

    abbrev me : Id
    me = record { 0 = i }

    abbrev rest : List rules.Actor
    rest = drop (suc i) all-asleep

    abbrev fresh : rules.Actor
    fresh = unstarted (rules_of t)

    at_place : get_or (take count tables) i z ≡ t
    at_place = get_or-take count tables i z h

    own_in : t ∈ take count tables
    own_in = let c = counted in subst (λ (u : Table). u ∈ take count tables) at_place (get_in (take count tables) i z (omega arith))

    pub table-fine : table_ok t ≡ true
    table-fine = all_in _ _ a.fine t own_in

    -- This one is asleep, and then the others.
    sleeper : get_or all-asleep i (unstarted []) ≡ fresh
    sleeper =
        let c = counted in
        let m = length-map (take count tables) rules_of in
        map_get unstarted i (tables_view count tables) [] (unstarted []) (omega arith)
        ∙ ap unstarted (map_get rules_of i (take count tables) z [] (omega arith) ∙ ap rules_of at_place)

    split : drop i all-asleep ≡ fresh ∷ rest
    split = let m = asleep-many in drop-cons all-asleep i (unstarted []) (omega arith) ∙ ap (λ (b : rules.Actor). b ∷ rest) sleeper

    abbrev here : Sys
    here = sys_on k cs used (g.bs ++ drop i all-asleep)

    abbrev hall : Around me
    hall = record {
      sys = sys_on k cs used (g.bs ++ fresh ∷ rest);
      there = let m = g.many in omega (arith, length-append g.bs (fresh ∷ rest));
    }

    placed : (b : rules.Actor) → set (g.bs ++ fresh ∷ rest) i b ≡ (g.bs ++ b ∷ []) ++ rest
    placed b = ap (λ (j : ℕ). set (g.bs ++ fresh ∷ rest) j b) (sym g.many) ∙ set-behind g.bs rest fresh b

    held : (m : Net) (b : rules.Actor) → holding me hall m b ≡ record { net = m; actors = (g.bs ++ b ∷ []) ++ rest }
    held m b = λ j. record { net = m; actors = placed b j }

    own : holding me hall (net_of k None cs used) fresh ≡ here
    own =
        held (net_of k None cs used) fresh
        ∙ ap (sys_on k cs used) (append_assoc g.bs (fresh ∷ []) rest ∙ ap (λ (l : List rules.Actor). g.bs ++ l) (sym split))

    abbrev onward : Sys → Outcome Sys
    onward s = systems (wake_all base (suc i) rest s)

    next : waking_all k cs₀ used₀ count tables ≡ bind (waking me hall (net_of k None cs used) t) onward
    next =
        g.same ∙ ap (λ (l : List rules.Actor). systems (wake_all base i l here)) split
        ∙ wakes-cons base i fresh rest here ∙ ap (λ (s : Sys). bind (systems (woken base me s)) onward) (sym own)

    module _ (r : Sent) (o : Actor) (cs' : List (List ℕ)) (w : Wakes k used t me cs r o cs') where
      pub wakes-stop : is_done r.answer ≡ false
          → ◌≡◌ {A = Answered} (record { answer = r.answer; system = system_of blank })
          (answered_of (system_of blank) (waking_all k cs₀ used₀ count tables))
      unfolding bind
      wakes-stop f =
          let v = number-answer r.answer in
          (λ j. record { answer = sym v j; system = system_of blank })
          ∙ sym (ap (answered_of (system_of blank)) (next ∙ ap (λ (o : Outcome Sys). bind o onward) (w.stops f hall None)))

      abbrev b : rules.Actor
      b = seated t o

      pub wakes-go : is_done r.answer ≡ true → Along cs' r.used r.len (set actors i o) (suc i)
      unfolding bind
      wakes-go e =
          let m = g.many in
          let f = a.few in
          let v : length (map actor_as g.bs) ≡ i = length-map g.bs actor_as ∙ m in
          record {
            bs = g.bs ++ b ∷ [];
            many = omega (arith, length-append g.bs (b ∷ []));
            net = w.net;
            room = w.room;
            structs =
                ap (λ (l : List Actor). set l i o) g.structs
                ∙ ap (λ (j : ℕ). set (pad most_actors zero_actor (map actor_as g.bs)) j o) (sym v)
                ∙ append-pad most_actors (map actor_as g.bs) o zero_actor (omega arith)
                ∙ ap (pad most_actors zero_actor) (ap (λ (y : Actor). map actor_as g.bs ++ y ∷ []) w.actor
                ∙ sym (map-append actor_as g.bs (b ∷ [])));
            owns = map-append table_for g.bs (b ∷ []) ∙ ap₂ (λ (l : List Table) (u : Table). l ++ u ∷ []) g.owns (sym (a.laid t own_in))
                ∙ sym (take-suc tables i z (omega arith));
            same = next ∙ ap (λ (o : Outcome Sys). bind o onward) (w.runs e hall None ∙ ap done (held (net_of k None cs' r.used) b));
          }

  -- After the last.
  module _ (cs : List (List ℕ)) (used n : ℕ) (actors : List Actor) (i : ℕ) (g : Along cs used n actors i) (most : count ≤ i) (least : i ≤ count) where
    abbrev whole : System
    whole = record { count = count; network = read_back k cs used None; actors = actors; tables = pad most_actors zero_table (take count tables) }

    ends : waking_all k cs₀ used₀ count tables ≡ done (sys_on k cs used g.bs)
    unfolding wake_all ended systems
    ends =
        let m = asleep-many in
        g.same ∙ ap (λ (l : List rules.Actor). systems (wake_all base i l (sys_on k cs used (g.bs ++ l))))
        (drop_of_length-le all-asleep {i = i} (omega arith))
        ∙ ap (λ (l : List rules.Actor). done (sys_on k cs used l)) (append-nil g.bs)

    whole_is : whole ≡ system_of (sys_on k cs used g.bs)
    whole_is =
        let c : count ≡ length g.bs = let m = g.many in omega arith in
        let u = read_is g.net g.room None in
        let e : count ≡ i = omega arith in
        let o = ap (pad most_actors zero_table) (ap (λ (j : ℕ). take j tables) e ∙ sym g.owns) in
        λ j. record { count = c j; network = u j; actors = g.structs j; tables = o j }

    pub wakes-end : (s : System) → s ≡ whole
        → ◌≡◌ {A = Answered} (record { answer = Done; system = s }) (answered_of (system_of blank) (waking_all k cs₀ used₀ count tables))
    unfolding answer_of
    wakes-end s e = ap (λ (y : System). record { answer = Done; system = y }) (e ∙ whole_is) ∙ sym (ap (answered_of (system_of blank)) ends)
