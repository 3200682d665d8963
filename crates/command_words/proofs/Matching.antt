-- What clap's clauses say of a command.
use Rattle.std.proofs.Common.{◌≡◌, ◌∙◌, inl, inr, List, [], ◌∷◌, Option, Some, None, cond, refl, ap, subst, arith}
use Rattle.std.specs.Prelude.{option_map, unwrap_or}
use Rattle.std.specs.Borrow.{Bor}
use Rattle.std.proofs.lemmas.Grind.{common_steps}
use Rattle.clap.specs.Walk.{is_empty}
use Rattle.clap.specs.Kinds.{HasKind, Kinds}
use Rattle.clap.specs.Values.{kind_of}
use Rattle.clap.specs.declared.error.Error.{Error}
use Rattle.clap.specs.declared.error.kind.ErrorKind.TheVariants.{OutOfMemory}
use Rattle.clap.specs.Words.{App, Text, fault_of, first_of, first_value, matches_of, rows_of}
use Rattle.clap.specs.declared.parser.matches.Found.{Found}
use Rattle.clap.proofs.WalkLemmas.{first_value-rows}
use Rattle.command_words.specs.Commands.{matched}

-- words in which there is no fault have matches
pub taken : (app : App) (words : List Text) → fault_of app words ≡ [] → matched app words ≡ Some (matches_of app words)
taken app words e = ap (λ (kinds : Kinds). cond (is_empty kinds) (Some (matches_of app words)) None) e

-- where there is a fault, there are none
pub refused : (app : App) (words : List Text) (error : Error) → HasKind (fault_of app words) error → (kind_of error ≡ OutOfMemory → ⊥) → None ≡ matched app words
refused app words error has other = go (fault_of app words) refl
  where
    go : (kinds : Kinds) → fault_of app words ≡ kinds → None ≡ matched app words
    go [] is = elim (subst (λ k. HasKind k error) is has) [ inl memory ↦ absurd (other memory) | inr among ↦ absurd among ]
    go (kind ∷ kinds) is = grind (arith, common_steps)

lent_or : (o : Option (Bor Text)) (d : Bor Text) → (unwrap_or o d).now ≡ unwrap_or (option_map (λ s. s.now) o) d.now
lent_or None d = refl
lent_or (Some x) d = refl

-- a text with its default
pub text_or : (o : Option (Bor Text)) (d : Bor Text) (f : Found) (id : Text) → option_map (λ s. s.now) o ≡ first_value f id
    → (unwrap_or o d).now ≡ unwrap_or (first_of id (rows_of f)) d.now
text_or o d f id is = lent_or o d ∙ ap (λ t. unwrap_or t d.now) (is ∙ first_value-rows f id)

pub ap₃ : {A B C D : Type 0} (f : A → B → C → D) (a x : A) (b y : B) (c z : C) → a ≡ x → b ≡ y → c ≡ z → f a b c ≡ f x y z
ap₃ f a x b y c z p q r = ap (λ u. f u b c) p ∙ (ap (λ u. f x u c) q ∙ ap (f x y) r)

pub ap₄ : {A B C D E : Type 0} (f : A → B → C → D → E) (a x : A) (b y : B) (c z : C) (d w : D) → a ≡ x → b ≡ y → c ≡ z → d ≡ w → f a b c d ≡ f x y z w
ap₄ f a x b y c z d w p q r s = ap (λ u. f u b c d) p ∙ ap₃ (f x) b y c z d w q r s
