-- Equivalent types have the same leaves, and so match where both sides of a connect name them.
use Rattle.std.proofs.Common.{◌≡◌, Bool, true, false, not, ◌&&◌, if◌then◌else◌, List, [], ◌∷◌, map, Option, Some, None, refl, sym, ap, ap₂, ◌∙◌, ⊎_elim}
use Rattle.std.proofs.lemmas.Bool.{eq-eqb}
use Rattle.fir_types.specs.declared.fir_type.FirType.{FirType}
use Rattle.fir_types.specs.declared.leaf.TypeLeaf.{TypeLeaf}
use Rattle.fir_types.specs.declared.leaf.PathStep.{PathStep}
use Rattle.fir_types.specs.declared.leaf.PathStep.TheVariants as step
use Rattle.fir_types.specs.Leaves.{leaves, way_of}
use Rattle.fir_types.specs.Equivalence.{Equivalent}
use Rattle.fir_types.proofs.Ways.{same_ways}
use Rattle.fir_meaning.specs.Drives.{same_step, same_way}
use Rattle.fir_meaning.specs.WellTyped.{same_leaves, both_match}
use Rattle.fir_names.proofs.Graphs.{some_same}
use Rattle.fitted_laws.proofs.Expressions.{NamesType}

step_itself : (a : PathStep) → same_step a a ≡ true
step_itself (step.Field m) = eq-eqb m m refl
step_itself (step.Element m) = eq-eqb m m refl

way_itself : (a : List PathStep) → same_way a a ≡ true
way_itself [] = refl
way_itself (x ∷ a) = ap₂ (λ u v. u && v) (step_itself x) (way_itself a)

turned_alike : (a b : Bool) → a ≡ b → (if a then b else not b) ≡ true
turned_alike true b e = sym e
turned_alike false b e = ap not (sym e)

leaves_match : (ls ms : List TypeLeaf) → map way_of ls ≡ map way_of ms → same_leaves ls ms ≡ true
leaves_match [] [] e = refl
leaves_match [] (m ∷ ms) e = cc
leaves_match (l ∷ ls) [] e = cc
leaves_match (l ∷ ls) (m ∷ ms) e =
    let way : way_of l ≡ way_of m = cc in
    let path : l.path ≡ m.path = ap (λ (w : List PathStep × Bool). w.0) way in
    let flip : l.flip ≡ m.flip = ap (λ (w : List PathStep × Bool). w.1) way in
    let rest : map way_of ls ≡ map way_of ms = cc in
    ap₂ (λ u v. u && v) (ap (same_way l.path) (sym path) ∙ way_itself l.path) (ap₂ (λ u v. u && v) (turned_alike l.flip m.flip flip) (leaves_match ls ms rest))

type_named : (typ t : FirType) → NamesType (Some typ) t → typ ≡ t
type_named typ t h = ⊎_elim (λ none. cc) (λ is. some_same is) h

-- what both sides name matches
pub match_by : (a b : Option FirType) (s t : FirType) → NamesType a s → NamesType b t → Equivalent s t → both_match a b ≡ true
match_by None None s t m n q = refl
match_by None (Some y) s t m n q = refl
match_by (Some x) None s t m n q = refl
match_by (Some x) (Some y) s t m n q =
    ap₂ (λ u v. same_leaves (leaves u) (leaves v)) (type_named x s m) (type_named y t n) ∙ leaves_match (leaves s) (leaves t) (same_ways q)
