-- Fitted sources, and sources of leaves.
use Rattle.std.proofs.Common.{◌≡◌, ℕ, ◌≤◌, min, nat_le, true, List, [], ◌∷◌, length, Some, None, option_and_then, refl, sym, ap, ap₂, ◌∙◌, subst, arith, append-nil, ◌==◌, if◌then◌else◌}
use Rattle.std.specs.Prelude.{Contains}
use Rattle.std.proofs.lemmas.Grind.{common_steps}
use Rattle.std.proofs.lemmas.Bool.Decides.{nat_tests}
use Rattle.bit_words.specs.declared.value.Kind.{Kind}
use Rattle.bit_words.specs.declared.value.Kind.TheVariants.{Unsigned}
use Rattle.bit_words.specs.declared.value.Value.{Value}
use Rattle.bit_words.specs.Values.{integer_of}
use Rattle.fir_types.specs.declared.leaf.TypeLeaf.{TypeLeaf}
use Rattle.prim_ops.specs.Values.{fitted}
use Rattle.prim_ops.proofs.Fittings.{refitted}
use Rattle.ground_net.specs.declared.ground.Ground.{Ground}
use Rattle.ground_net.specs.declared.ground.Ground.TheVariants.{Fit}
use Rattle.ground_net.specs.Grounds.{Instant, value, mentions}
use Rattle.ground_net.proofs.Layers.{value-Fit, mentions-Fit}
use Rattle.ground_net.specs.Shapes.{Shape, shaped, shape_of_value, Table, shape, all_of, shape_of_fit}
use Rattle.ground_net.proofs.Shaping.{shape-Fit, shapes_hold}
use Rattle.fir_meaning.specs.Components.{kind_of_leaf, width_of_leaf}
use Rattle.ground_exprs.specs.declared.part.Pick.{Pick}
use Rattle.ground_exprs.specs.Parts.{choices, are_indices, is_nowhere, IsRead}
use Rattle.ground_exprs.specs.declared.source.Source.{Source}
use Rattle.ground_exprs.specs.Sources.{told, IsFitted, IsOfLeaf}

-- A value of a kind and a width is itself, fitted to them.
pub refit : (v : Value) (kind : Kind) (width : ℕ) → shape_of_value v ≡ shaped kind width → fitted kind width (integer_of v) ≡ v
refit v kind width e = ap₂ (λ k w. fitted k w (integer_of v)) (sym (ap (λ (s : Shape). s.kind) e)) (sym (ap (λ (s : Shape). s.width) e)) ∙ refitted v

fit_value : (kind : Kind) (width : ℕ) (g : Ground) (instant : Instant) → value (Fit kind width (g ∷ [])) instant ≡ fitted kind width (integer_of (value g instant))
fit_value kind width g instant = value-Fit kind width (g ∷ []) instant

fit_mentions : (kind : Kind) (width : ℕ) (g : Ground) → mentions (Fit kind width (g ∷ [])) ≡ mentions g
fit_mentions kind width g = mentions-Fit kind width (g ∷ []) ∙ append-nil (mentions g)

fit_shape : (table : Table) (kind : Kind) (width : ℕ) (g : Ground) (s : Shape) → width ≤ 128 → shape g table ≡ Some s → shape (Fit kind width (g ∷ [])) table ≡ Some (shaped kind width)
fit_shape table kind width g s h e =
    let test : nat_le width 128 ≡ true = grind (arith, common_steps, nat_tests, h) in
    shape-Fit kind width (g ∷ []) table ∙ (ap (λ o. option_and_then (shape_of_fit kind width) (all_of (o ∷ []))) e ∙ ap (λ b. if b then Some (shaped kind width) else None) test)

pub fits_itself : (s : Source) → IsFitted s s
fits_itself s = record {
  value = λ table instant e h. sym (refit (value s.expr instant) s.kind s.width (shapes_hold table instant h s.expr (told s) e));
  shape = λ table e. e;
  mentions = refl;
}

pub fits_anew : (source fit : Source) → fit.expr ≡ Fit fit.kind fit.width (source.expr ∷ []) → IsFitted source fit
fits_anew source fit is = record {
  value = λ table instant e h. ap (λ g. value g instant) is ∙ fit_value fit.kind fit.width source.expr instant;
  shape = λ table e. ap (λ g. shape g table) is ∙ fit_shape table fit.kind fit.width source.expr (told source) fit.narrow e;
  mentions = ap mentions is ∙ fit_mentions fit.kind fit.width source.expr;
}

-- leaves

pub plain_leaf : (picks : List Pick) (number : ℕ) (leaf : TypeLeaf) (s : Source) → picks ≡ [] → s.kind ≡ kind_of_leaf leaf → s.width ≡ min (width_of_leaf leaf) 128 → IsRead picks number s.expr
    → IsOfLeaf picks number leaf s
plain_leaf picks number leaf s none kind width r = record {
  kind = kind;
  width = width;
  value = λ table instant h i leaves.
      sym (refit (value s.expr instant) s.kind s.width (shapes_hold table instant h s.expr (told s) (has table i leaves))) ∙ ap (fitted s.kind s.width) (r.value instant);
  shape = has;
  only = r.only;
  indices = r.indices;
  leaves = r.leaves;
}
  where
    has : (table : Table) → are_indices table picks ≡ true → ((x : ℕ) → Contains (choices picks number) x → table.leaf x ≡ Some (told s)) → shape s.expr table ≡ Some (told s)
    has table i leaves = r.shape table (told s) i leaves ∙ ap (λ ps. Some (if is_nowhere ps then shaped Unsigned 0 else told s)) none

pub fitted_leaf : (picks : List Pick) (number : ℕ) (leaf : TypeLeaf) (g : Ground) (s : Source) → s.expr ≡ Fit s.kind s.width (g ∷ []) → s.kind ≡ kind_of_leaf leaf → s.width ≡ min (width_of_leaf leaf) 128
    → IsRead picks number g → IsOfLeaf picks number leaf s
fitted_leaf picks number leaf g s is kind width r = record {
  kind = kind;
  width = width;
  value = λ table instant h i leaves. ap (λ x. value x instant) is ∙ (fit_value s.kind s.width g instant ∙ ap (fitted s.kind s.width) (r.value instant));
  shape = λ table i leaves. ap (λ x. shape x table) is ∙ fit_shape table s.kind s.width g (if is_nowhere picks then shaped Unsigned 0 else told s) s.narrow (r.shape table (told s) i leaves);
  only = λ x c. r.only x (subst (λ l. Contains l x) same c);
  indices = λ x c. subst (λ l. Contains l x) (sym same) (r.indices x c);
  leaves = λ x c. subst (λ l. Contains l x) (sym same) (r.leaves x c);
}
  where
    same : mentions s.expr ≡ mentions g
    same = ap mentions is ∙ fit_mentions s.kind s.width g

pub empty_there : {A : Type 0} (xs : List A) → true ≡ (length xs == 0) → xs ≡ []
empty_there [] e = refl
empty_there (x ∷ xs) e = absurd (grind (arith, common_steps, nat_tests, e))
