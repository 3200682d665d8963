-- What closes the walk through expressions.
use Rattle.std.proofs.Common.{◌≡◌, ℕ, zero, suc, ◌≤◌, true, List, [], ◌∷◌, map, length, take, get_or, Option, Some, refl, sym, ap, ap₂, ◌∙◌, subst, arith}
use Rattle.std.proofs.lemmas.Grind.{common_steps}
use Rattle.bit_words.specs.declared.value.Kind.{Kind}
use Rattle.bit_words.specs.declared.number.Number.{Number}
use Rattle.fir_types.specs.declared.name.Name.{Name}
use Rattle.fir_types.specs.declared.fir_type.FirType.{FirType, the_lemmas}
use Rattle.fir_types.specs.declared.fir_type.Shape.{Shape}
use Rattle.fir_types.specs.declared.fir_type.Shape.TheOpen.{Shape-F}
use Rattle.fir_types.specs.declared.fir_type.Shape.TheViews.{out-Shape}
use Rattle.fir_types.specs.declared.fir_type.Field.{Field}
use Rattle.prim_ops.specs.declared.operation.PrimOp.{PrimOp}
use Rattle.fir_tree.specs.declared.expr.Expr.{Expr}
use Rattle.fir_tree.specs.declared.expr.Suffix.{Suffix}
use Rattle.fir_tree.specs.declared.expr.Form.TheVariants as form
use Rattle.fir_tree.specs.declared.expr.Form.TheOpen.{Form-F}
use Rattle.ground_net.specs.declared.ground.Ground.TheVariants.{Op}
use Rattle.ground_net.specs.Shapes.{shape_of_row}
use Rattle.fir_meaning.specs.WellTyped as kinds
use Rattle.fir_meaning.specs.WellTyped.{typed}
use Rattle.fir_meaning.specs.Values as tree
use Rattle.fir_meaning.specs.Values.{element_of_shape, suffix_step}
use Rattle.fir_meaning.specs.Mentions as reads
use Rattle.fir_meaning.specs.Mentions.{suffix_onward}
use Rattle.ground_exprs.specs.declared.part.Part.{Part}
use Rattle.fir_meaning.specs.WellTyped.{is_narrow}
use Rattle.ground_exprs.proofs.Members.{none_some, some_same}
use Rattle.ground_exprs.specs.declared.source.Source.{Source}
use Rattle.ground_exprs.specs.Sources.{Entries, known_of, told, Lowers, IsLowered, AreOfPart, AreOperands, Leads, typed_step}
use Rattle.ground_exprs.proofs.Lowered.{lowers_as, reference_lowers}
use Rattle.ground_exprs.proofs.Operands.{operation_lowers}
use Rattle.ground_exprs.proofs.Forms.{typed-Ref, value-Ref, mentions-Ref, typed-Literal, value-Literal, mentions-Literal}

pub take_whole : {A : Type 0} (xs : List A) (k : ℕ) → length xs ≤ k → take k xs ≡ xs
take_whole [] zero h = refl
take_whole [] (suc k) h = refl
take_whole (x ∷ xs) zero h = absurd (omega (arith, h))
take_whole (x ∷ xs) (suc k) h = ap (λ l. x ∷ l) (take_whole xs k (omega (arith, h)))

pub three_there : {A : Type 0} (xs : List A) (a b c : A) → 3 ≤ length xs → length xs ≤ 3 → a ≡ get_or xs 0 a → b ≡ get_or xs 1 b → c ≡ get_or xs 2 c → xs ≡ a ∷ b ∷ c ∷ []
three_there [] a b c l m p q r = absurd (omega (arith, l))
three_there (x ∷ []) a b c l m p q r = absurd (omega (arith, l))
three_there (x ∷ y ∷ []) a b c l m p q r = absurd (omega (arith, l))
three_there (x ∷ y ∷ z ∷ []) a b c l m p q r = ap (λ u. u ∷ y ∷ z ∷ []) (sym p) ∙ ap₂ (λ u v. a ∷ u ∷ v ∷ []) (sym q) (sym r)
three_there (x ∷ y ∷ z ∷ w ∷ ws) a b c l m p q r = absurd (omega (arith, m))

pub ref_lowers : (entries : Entries) (e : Expr) (name : Name) (ss slice : List Suffix) (typ : FirType) (part : Part) (sources : List Source) → e.form ≡ form.Ref name ss → slice ≡ ss
    → Leads entries name.id slice typ part → AreOfPart typ part sources → IsLowered entries e sources
ref_lowers entries e name ss slice typ part sources is same l all = lowers_as entries
    (kinds.of_form (Form-F.Ref name (map typed_step ss)) (known_of entries)) (typed e (known_of entries)) (tree.of_form (Form-F.Ref name (map suffix_step ss))) (tree.value e)
    (reads.of_form (Form-F.Ref name (map suffix_onward ss))) (reads.mentions e) sources (ap (λ f. f (known_of entries)) (typed-Ref e name ss is)) (value-Ref e name ss is) (mentions-Ref e name ss is)
    (reference_lowers entries name ss typ part sources (subst (λ x. Leads entries name.id x typ part) same l) all)

pub literal_lowers : (entries : Entries) (e : Expr) (kind : Kind) (width : Option ℕ) (n : Number) (sources : List Source) → e.form ≡ form.Literal kind width n
    → Lowers entries (kinds.of_form (Form-F.Literal kind width n) (known_of entries)) (tree.of_form (Form-F.Literal kind width n)) (reads.of_form (Form-F.Literal kind width n)) sources → IsLowered entries e sources
literal_lowers entries e kind width n sources is l = lowers_as entries
    (kinds.of_form (Form-F.Literal kind width n) (known_of entries)) (typed e (known_of entries)) (tree.of_form (Form-F.Literal kind width n)) (tree.value e)
    (reads.of_form (Form-F.Literal kind width n)) (reads.mentions e) sources (ap (λ f. f (known_of entries)) (typed-Literal e kind width n is)) (value-Literal e kind width n is) (mentions-Literal e kind width n is) l

pub prim_lowers : (entries : Entries) (e : Expr) (prim : PrimOp) (es slice : List Expr) (params ps : List ℕ) (operands own : List Source) (s : Source) → e.form ≡ form.Prim prim es params → slice ≡ es → ps ≡ params
    → AreOperands entries slice (length slice) operands → s.expr ≡ Op prim (map (λ (o : Source). o.expr) operands) ps → shape_of_row prim ps (map told operands) ≡ Some (told s) → own ≡ s ∷ [] → IsLowered entries e own
prim_lowers entries e prim es slice params ps operands own s is same same_params all expr row one =
    subst (IsLowered entries e) (sym one) (operation_lowers entries e prim es params operands s is (subst (λ x. AreOperands entries x (length x) operands) same all)
    (expr ∙ ap (Op prim (map (λ (o : Source). o.expr) operands)) same_params) (ap (λ x. shape_of_row prim x (map told operands)) (sym same_params) ∙ row))

pub narrow_element : (t inner : FirType) → element_of_shape (out-Shape t.shape) ≡ Some inner → is_narrow t ≡ true → is_narrow inner ≡ true
narrow_element t inner e h = by (out-Shape t.shape) refl e
  where
    by : (y : Shape-F Shape Field FirType) → out-Shape t.shape ≡ y → element_of_shape y ≡ Some inner → is_narrow inner ≡ true
    by (Shape-F.Vector element n) is f =
        let same : is_narrow t ≡ is_narrow element = grind (arith, common_steps, the_lemmas) in
        ap is_narrow (sym (some_same f)) ∙ (sym same ∙ h)
    by (Shape-F.Unsigned w) is f = absurd (none_some f)
    by (Shape-F.Signed w) is f = absurd (none_some f)
    by Shape-F.Clock is f = absurd (none_some f)
    by Shape-F.Reset is f = absurd (none_some f)
    by Shape-F.AsyncReset is f = absurd (none_some f)
    by (Shape-F.Bundle fields) is f = absurd (none_some f)
