-- Parts that are appended one behind the other.
use Rattle.std.proofs.Common.{◌≡◌, ℕ, List, ◌++◌, ap, ◌∙◌}
use Rattle.std.proofs.lemmas.List.{append_assoc}

pub after : {one two : List ℕ} (old a b : List ℕ) → one ≡ old ++ a → two ≡ one ++ b → two ≡ old ++ (a ++ b)
after old a b e f = f ∙ ap (λ t. t ++ b) e ∙ append_assoc old a b

pub after_three : {one two three : List ℕ} (old a b d : List ℕ) → one ≡ old ++ a → two ≡ one ++ b → three ≡ two ++ d → three ≡ old ++ (a ++ b ++ d)
after_three old a b d e f g = after old (a ++ b) d (after old a b e f) g

pub after_five : {one two three four five : List ℕ} (old a b d e f : List ℕ) → one ≡ old ++ a → two ≡ one ++ b → three ≡ two ++ d → four ≡ three ++ e
    → five ≡ four ++ f → five ≡ old ++ (a ++ b ++ d ++ e ++ f)
after_five old a b d e f p q r s t = after old (a ++ b ++ d ++ e) f (after old (a ++ b ++ d) e (after_three old a b d p q r) s) t

pub after_seven : {one two three four five six seven : List ℕ} (old a b d e f g h : List ℕ) → one ≡ old ++ a → two ≡ one ++ b → three ≡ two ++ d
    → four ≡ three ++ e → five ≡ four ++ f → six ≡ five ++ g → seven ≡ six ++ h → seven ≡ old ++ (a ++ b ++ d ++ e ++ f ++ g ++ h)
after_seven old a b d e f g h p q r s t u v =
    after old (a ++ b ++ d ++ e ++ f ++ g) h (after old (a ++ b ++ d ++ e ++ f) g (after_five old a b d e f p q r s t) u) v
