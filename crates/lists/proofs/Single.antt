-- Where an answer is promised for every value of something that the code does not take, no second answer fits.
-- Assumes nothing.
use mathlib.Core.Path.{◌≡◌, sym, ◌∙◌}

-- Any one value shows it.
pub one_answer : {A B : Type 0} (b : B) (f : B → A) {x y : A} → ((i : B) → x ≡ f i) → ((i : B) → y ≡ f i) → x ≡ y
one_answer b f h k = h b ∙ sym (k b)
