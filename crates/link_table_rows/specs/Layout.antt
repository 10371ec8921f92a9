-- The row that a rule is laid out as.
-- Assumes nothing.
use Rattle.std.specs.Prelude.{ℕ, ◌+◌, ◌*◌, ◌<◌, ◌≡◌, true, false, ◌||◌, List, [], ◌∷◌, get_or}
use Rattle.std.specs.Int.{from_bool}
use Rattle.types.specs.declared.RuleCommand.{RuleCommand}
use Rattle.types.specs.declared.RuleCommand.TheVariants.{SetTimer, CancelTimer, Send, Save}
use Rattle.types.specs.declared.Rule.{Rule}
use Rattle.rules.specs.Inner.{zero_slot}
use Rattle.rules.specs.WellFormed.{rule_ok}
use Rattle.link_tables.specs.Rows.{rule_in, RowLaid}
use Rattle.link_table_rows.specs.declared.Words.{Words}

-- A command's two words, as `command_in` reads them, and what it counts for.
unfoldable pub words_of : RuleCommand → Words
words_of (SetTimer t) = record { head = 16 * t; word = 0; sent = false; kept = false }
words_of (CancelTimer t) = record { head = 1 + 16 * t; word = 0; sent = false; kept = false }
words_of (Send to-source dst echo payload) = record {
  head = 2 + 4 * from_bool to-source + 8 * from_bool echo + 16 * dst.0;
  word = payload.0;
  sent = true;
  kept = true;
}
words_of (Save echo v) = record { head = 3 + 8 * from_bool echo; word = v; sent = false; kept = true }

abbrev pub words_at : Rule → ℕ → Words
words_at r i = words_of (get_or r.commands i zero_slot).command

-- What the types say of it: timers and destinations are bytes, payloads and values have 32 bits.
pub record Fits (x : Words) : Type 0 where
  pub head : x.head < 4096
  pub word : x.word < 4294967296

-- With the words of its four places.
abbrev pub row_with : Rule → Words → Words → Words → Words → List ℕ
row_with r a b c d =
    (r.event * 16 + r.state) ∷ r.low ∷ r.high ∷ from_bool r.touched ∷ r.next ∷ r.used
    ∷ a.head ∷ a.word ∷ b.head ∷ b.word ∷ c.head ∷ c.word ∷ d.head ∷ d.word
    ∷ (from_bool a.sent + from_bool b.sent + from_bool c.sent + from_bool d.sent) ∷ from_bool (a.kept || b.kept || c.kept || d.kept) ∷ []

unfoldable pub row_of : Rule → List ℕ
row_of r = row_with r (words_at r 0) (words_at r 1) (words_at r 2) (words_at r 3)

-- The row x is laid out from the rule r: that of a sound rule is the rule again.
pub record Laid (r : Rule) (x : List ℕ) : Type 0 where
  pub is : x ≡ row_of r
  pub good : rule_ok r ≡ true → (rule_in x ≡ r) × RowLaid x
