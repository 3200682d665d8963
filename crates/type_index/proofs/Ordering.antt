-- The order of keys finds what their equality finds.
use Rattle.std.proofs.Common.{◌≡◌, ℕ, Bool, true, false, List, [], ◌∷◌, refl, sym, ap, ◌∙◌, arith}
use Rattle.std.specs.Prelude.{Option, Some, cond, nat_eq}
use Rattle.std.specs.Bool.{beq}
use Rattle.std.specs.Map.{lookup}
use Rattle.std.specs.Ordering.{is_eq, nat_cmp, bool_cmp}
use Rattle.std.specs.Cmp.{both_tied}
use Rattle.std.proofs.lemmas.Bool.Decides.{nat_tests}
use Rattle.type_index.specs.declared.keys.VectorKey.{VectorKey}
use Rattle.type_index.specs.declared.keys.FieldKey.{FieldKey}
use Rattle.type_index.specs.contracts.keys.VectorKeyOrd.TheImpl as vectors
use Rattle.type_index.specs.contracts.keys.FieldKeyOrd.TheImpl as fields
use Rattle.type_index.specs.Numbers.{same_vector, same_field}

-- tests that agree find the same
alike : {K X : Type 0} (one other : K → Bool) → ((k : K) → one k ≡ other k) → (entries : List (K × X)) → lookup one entries ≡ lookup other entries
alike one other same [] = refl
alike one other same (e ∷ entries) = rw (same e.0, alike one other same entries)

same_ties : (a b : Bool) → beq a b ≡ is_eq (bool_cmp a b)
same_ties true true = refl
same_ties true false = refl
same_ties false true = refl
same_ties false false = refl

numbers_tie : (x y : ℕ) → nat_eq x y ≡ is_eq (nat_cmp x y)
numbers_tie x y = grind (arith, nat_tests)

vector_alike : (key other : VectorKey) → is_eq (vectors.cmp-value.it key other) ≡ same_vector key other
vector_alike key other =
    sym (both_tied (nat_eq key.element other.element) (nat_eq key.length other.length) (nat_cmp key.element other.element) (nat_cmp key.length other.length) (numbers_tie key.element other.element) (numbers_tie key.length other.length))

field_alike : (key other : FieldKey) → is_eq (fields.cmp-value.it key other) ≡ same_field key other
field_alike key other =
    let classes = both_tied (nat_eq key.class other.class) (nat_eq key.after other.after) (nat_cmp key.class other.class) (nat_cmp key.after other.after) (numbers_tie key.class other.class) (numbers_tie key.after other.after) in
    let flips = both_tied (beq key.flip other.flip) _ (bool_cmp key.flip other.flip) _ (same_ties key.flip other.flip) classes in
    sym (both_tied (nat_eq key.name other.name) _ (nat_cmp key.name other.name) _ (numbers_tie key.name other.name) flips)

pub vectors_found : (key : VectorKey) (entries : List (VectorKey × ℕ)) → lookup (λ other. is_eq (vectors.cmp-value.it key other)) entries ≡ lookup (same_vector key) entries
vectors_found key entries = alike (λ other. is_eq (vectors.cmp-value.it key other)) (same_vector key) (vector_alike key) entries

pub fields_found : (key : FieldKey) (entries : List (FieldKey × ℕ)) → lookup (λ other. is_eq (fields.cmp-value.it key other)) entries ≡ lookup (same_field key) entries
fields_found key entries = alike (λ other. is_eq (fields.cmp-value.it key other)) (same_field key) (field_alike key) entries

pub vectors_after : (key : VectorKey) (number : ℕ) (old new : List (VectorKey × ℕ))
    → ((q : VectorKey) → lookup (λ other. is_eq (vectors.cmp-value.it q other)) new
    ≡ cond (is_eq (vectors.cmp-value.it key q)) (Some number) (lookup (λ other. is_eq (vectors.cmp-value.it q other)) old))
    → (q : VectorKey) → lookup (same_vector q) new ≡ cond (same_vector key q) (Some number) (lookup (same_vector q) old)
vectors_after key number old new is q =
    sym (vectors_found q new) ∙ is q ∙ ap (λ (o : Option ℕ). cond (is_eq (vectors.cmp-value.it key q)) (Some number) o) (vectors_found q old)
    ∙ ap (λ (b : Bool). cond b (Some number) (lookup (same_vector q) old)) (vector_alike key q)

pub fields_after : (key : FieldKey) (number : ℕ) (old new : List (FieldKey × ℕ))
    → ((q : FieldKey) → lookup (λ other. is_eq (fields.cmp-value.it q other)) new
    ≡ cond (is_eq (fields.cmp-value.it key q)) (Some number) (lookup (λ other. is_eq (fields.cmp-value.it q other)) old))
    → (q : FieldKey) → lookup (same_field q) new ≡ cond (same_field key q) (Some number) (lookup (same_field q) old)
fields_after key number old new is q =
    sym (fields_found q new) ∙ is q ∙ ap (λ (o : Option ℕ). cond (is_eq (fields.cmp-value.it key q)) (Some number) o) (fields_found q old)
    ∙ ap (λ (b : Bool). cond b (Some number) (lookup (same_field q) old)) (field_alike key q)
