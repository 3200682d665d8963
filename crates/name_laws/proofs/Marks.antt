-- What the bytes of names are not.
use Rattle.std.proofs.Common.{◌≡◌, ◌≢◌, ℕ, ◌==◌, ◌||◌, Bool, true, false, List, refl, sym, ap, ◌∙◌, arith, true≢false, Contains}
use Rattle.std.proofs.lemmas.Bool.Decides.{nat_tests}
use Rattle.std.proofs.lemmas.List.Elements.{All-contains, All-weaker}
use Rattle.fir_lexer.specs.Bytes.{in_word}
use Rattle.name_laws.specs.Names.{in_name, no_break, IsWord, IsName, IsUnbroken}

pub word_byte_names : (b : ℕ) → in_word b ≡ true → in_name b ≡ true
word_byte_names b e = ap (λ t. t || (b == 35)) e

pub words_name : (name : List ℕ) → IsWord name → IsName name
words_name name h = All-weaker (λ b. in_word b ≡ true) (λ b. in_name b ≡ true) word_byte_names name h

-- a byte that passes a test isn't one that fails it
other : (test : ℕ → Bool) (b c : ℕ) → test c ≡ false → test b ≡ true → b ≢ c
other test b c fails passes e = true≢false (sym passes ∙ (ap test e ∙ fails))

pub name_marks : (name : List ℕ) → IsName name → (b : ℕ) → Contains name b → (b ≢ 32) × (b ≢ 10) × (b ≢ 46) × (b ≢ 91) × (b ≢ 93)
name_marks name h b among =
    let passes : in_name b ≡ true = All-contains (λ b. in_name b ≡ true) name b h among in
    (other in_name b 32 refl passes, other in_name b 10 refl passes, other in_name b 46 refl passes, other in_name b 91 refl passes, other in_name b 93 refl passes)

pub word_marks : (name : List ℕ) → IsWord name → (b : ℕ) → Contains name b → (b ≢ 32) × (b ≢ 10) × (b ≢ 46) × (b ≢ 91) × (b ≢ 93) × (b ≢ 35)
word_marks name h b among =
    let passes : in_word b ≡ true = All-contains (λ b. in_word b ≡ true) name b h among in
    (other in_word b 32 refl passes, other in_word b 10 refl passes, other in_word b 46 refl passes, other in_word b 91 refl passes, other in_word b 93 refl passes, other in_word b 35 refl passes)

-- a name has no space and no line feed
name_unbroken : (b : ℕ) → in_name b ≡ true → no_break b ≡ true
name_unbroken b passes = let space = other in_name b 32 refl passes in let feed = other in_name b 10 refl passes in both b space feed
  where
    both : (b : ℕ) → b ≢ 32 → b ≢ 10 → no_break b ≡ true
    both b space feed = grind (arith, nat_tests)

pub unbroken_name : (name : List ℕ) → IsName name → IsUnbroken name
unbroken_name name h = All-weaker (λ b. in_name b ≡ true) (λ b. no_break b ≡ true) name_unbroken name h
