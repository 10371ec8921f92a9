-- The derived comparisons of numbers, messages and envelopes are those of the definitions.
-- Assumes nothing.
use mathlib.Core.Path.{◌≡◌, refl, sym, ap, ap₂, ◌∙◌}
use Rattle.std.specs.Ordering.{is_eq, is_lt, is_some_and, partial_lt}
use Rattle.std.specs.declared.cmp.Ordering.{Ordering}
use Rattle.types.specs.declared.Envelope.{Envelope}
use Rattle.types.specs.declared.Message.{Message}
use Rattle.types.specs.declared.Message.TheVariants.{Deliver, Ack}
use Rattle.types.specs.contracts.MessageOrd.TheImpl as message_ord
use Rattle.types.specs.contracts.EnvelopeOrd.TheImpl as envelope_ord
use Rattle.types.specs.contracts.EnvelopePartialOrd.TheImpl as envelope_partial_ord
use Rattle.types.specs.contracts.EnvelopePartialEq.TheImpl as envelope_partial_eq
use Rattle.types.specs.contracts.EnvelopeOrd.TheImpl.Laws as envelope_laws
use Rattle.types.specs.Order.{cmp_n, and_then, cmp_message, cmp_envelope, is_less, same}
use Rattle.types.proofs.Laws.{and_then-equal}

-- by cases: equal tags decide nothing, and nothing follows the last number
pub message-cmp : (a b : Message) → (message_ord.ghosts).cmp a b ≡ cmp_message a b
unfolding cmp_message
message-cmp (Deliver n p) (Deliver m q) = ap₂ and_then refl (sym (and_then-equal _))
message-cmp (Deliver n p) (Ack m) = refl
message-cmp (Ack n) (Deliver m q) = refl
message-cmp (Ack n) (Ack m) = sym (and_then-equal _)

pub envelope-cmp : (a b : Envelope) → (envelope_ord.ghosts).cmp a b ≡ cmp_envelope a b
unfolding cmp_message cmp_envelope
envelope-cmp a b = ap (λ (o : Ordering). and_then (cmp_n a.src.0 b.src.0) (and_then (cmp_n a.dst.0 b.dst.0) o)) (message-cmp a.msg b.msg)

-- `==` and `<`
pub envelope-eq : (a b : Envelope) → (envelope_partial_eq.ghosts).eq a b ≡ same a b
unfolding same
envelope-eq a b = envelope_laws.matches_eq-law a b ∙ ap is_eq (envelope-cmp a b)

pub envelope-before : (a b : Envelope) → partial_lt (envelope_partial_ord.ghosts).partial_cmp a b ≡ is_less (cmp_envelope a b)
envelope-before a b = ap (is_some_and is_lt) (envelope_laws.matches_partial_cmp-law a b) ∙ ap is_lt (envelope-cmp a b)
