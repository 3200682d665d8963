-- What is said of expressions, one part more.
use Rattle.std.proofs.Common.{◌≡◌, ℕ, zero, suc, ◌+◌, ◌<◌, ◌≤◌, List, [], ◌∷◌, ◌++◌, max, map, take, drop, length, get_or, refl, sym, ap, ap₂, ◌∙◌, arith}
use Rattle.std.specs.Prelude.{Option, option_map, find, ◌==◌}
use Rattle.std.proofs.lemmas.Grind.{common_steps}
use Rattle.std.proofs.lemmas.List.{map_more}
use Rattle.fir_types.specs.declared.fir_type.FirType.{FirType}
use Rattle.fir_types.specs.declared.fir_type.Field.{Field}
use Rattle.fir_types.specs.declared.fir_type.Shape.{Shape}
use Rattle.fir_types.specs.declared.fir_type.Shape.TheOpen.{Shape-F}
use Rattle.type_index.specs.Knowing.{fields_in, element_in}
use Rattle.fir_types.specs.declared.fir_type.Shape.TheViews.{out-Shape}
use Rattle.fir_types.specs.declared.name.Name.{Name}
use Rattle.prim_ops.specs.declared.operation.PrimOp.{PrimOp}
use Rattle.fir_tree.specs.declared.expr.Expr.{Expr, the_lemmas as expr_lemmas}
use Rattle.fir_tree.specs.declared.expr.Form.TheVariants as form
use Rattle.fir_meaning.specs.Values.{field_type, element_type, or_itself, field_of_shape, element_of_shape}
use Rattle.size_check.specs.Caps.{cap}
use Rattle.size_check.specs.Measures.{greatest}
use Rattle.size_check.specs.Reaching.{capped_weight}
use Rattle.size_check.specs.Weights.{Typing, Weight, Weighs, weight, whole, most_of, of_choice, one_bit}
use Rattle.size_check.proofs.Capping.{cap_max, cap_one}

greatest-append : (xs : List ℕ) (n : ℕ) → greatest (xs ++ n ∷ []) ≡ max (greatest xs) n
greatest-append [] n = omega arith
greatest-append (x ∷ xs) n = let r = greatest-append xs n in omega (arith, r)

max_turned : (a b : ℕ) → max a b ≡ max b a
max_turned a b = omega arith

-- the greatest, with one more
pub greatest_more : {X : Type 0} (f : X → ℕ) (xs : List X) (i : ℕ) (x : X) (before own after : ℕ) → i < length xs → x ≡ get_or xs i x
    → before ≡ cap (greatest (map f (take i xs))) → own ≡ cap (f x) → after ≡ max own before → after ≡ cap (greatest (map f (take (i + 1) xs)))
greatest_more f xs i x before own after lt is h w e =
    e ∙ ap₂ (λ a b. max a b) w h ∙ max_turned (cap (f x)) (cap (greatest (map f (take i xs)))) ∙ cap_max (greatest (map f (take i xs))) (f x)
    ∙ ap cap (ap (λ y. max (greatest (map f (take i xs))) (f y)) is
    ∙ sym (ap greatest (map_more f xs i x lt) ∙ greatest-append (map f (take i xs)) (f (get_or xs i x))))

each_most : {X : Type 0} (g : X → Weight) (xs : List X) → map (λ w. w.most) (map g xs) ≡ map (λ x. (g x).most) xs
each_most g [] = refl
each_most g (x ∷ xs) = ap (λ l. (g x).most ∷ l) (each_most g xs)

pub most_more : {X : Type 0} (g : X → Weight) (xs : List X) (i : ℕ) (x : X) (before own after : ℕ) → i < length xs → x ≡ get_or xs i x
    → before ≡ cap (most_of (map g (take i xs))) → own ≡ cap (g x).most → after ≡ max own before → after ≡ cap (most_of (map g (take (i + 1) xs)))
most_more g xs i x before own after lt is h w e =
    greatest_more (λ y. (g y).most) xs i x before own after lt is (h ∙ ap (λ l. cap (greatest l)) (each_most g (take i xs))) w e
    ∙ sym (ap (λ l. cap (greatest l)) (each_most g (take (i + 1) xs)))

all_weights : (types : Typing) (es : List Expr) → map (λ (w : Weighs). w types) (map weight es) ≡ map (λ e. weight e types) es
all_weights types [] = refl
all_weights types (e ∷ es) = ap (λ l. weight e types ∷ l) (all_weights types es)

abbrev made : FirType → ℕ → Weight
made typ most = record { typ = typ; most = most }

weight-prim : (e : Expr) (op : PrimOp) (es : List Expr) (ps : List ℕ) (types : Typing) → e.form ≡ form.Prim op es ps
    → weight e types ≡ made one_bit (max 1 (most_of (map (λ (w : Weighs). w types) (map weight es))))
weight-prim e op es ps types is = grind (arith, common_steps, expr_lemmas)

weight-mux : (e : Expr) (es : List Expr) (types : Typing) → e.form ≡ form.Mux es → weight e types ≡ of_choice (map (λ (w : Weighs). w types) (map weight es))
weight-mux e es types is = grind (arith, common_steps, expr_lemmas)

pub weight-whole : (e : Expr) (name : Name) (types : Typing) → e.form ≡ form.Ref name [] → weight e types ≡ whole (types name.id)
weight-whole e name types is = grind (arith, common_steps, expr_lemmas)

pub weigh_prim : (e : Expr) (op : PrimOp) (es : List Expr) (ps : List ℕ) (types : Typing) (typ : FirType) (m n : ℕ) → e.form ≡ form.Prim op es ps → typ ≡ one_bit
    → m ≡ cap (most_of (map (λ e. weight e types) es)) → n ≡ max m 1 → made typ n ≡ capped_weight (weight e types)
weigh_prim e op es ps types typ m n is t h q =
    ap₂ made t (q ∙ ap (λ x. max x 1) h ∙ cap_one (most_of (map (λ e. weight e types) es)))
    ∙ sym (ap capped_weight (weight-prim e op es ps types is ∙ ap (λ ws. made one_bit (max 1 (most_of ws))) (all_weights types es)))

pub weigh_mux : (e : Expr) (es : List Expr) (types : Typing) (w : Weight) → e.form ≡ form.Mux es → w ≡ capped_weight (of_choice (map (λ e. weight e types) es))
    → w ≡ capped_weight (weight e types)
weigh_mux e es types w is h = h ∙ sym (ap capped_weight (weight-mux e es types is ∙ ap of_choice (all_weights types es)))

-- the type of a part, by the field or element that is found

pub field_type_is : (typ : FirType) (id : ℕ) (found : Option Field) → found ≡ find (λ f. f.name.id == id) (fields_in (out-Shape typ.shape))
    → field_type id typ ≡ or_itself typ (option_map (λ f. f.typ) found)
field_type_is typ id found e = by (out-Shape typ.shape) ∙ ap (λ (o : Option Field). or_itself typ (option_map (λ f. f.typ) o)) (sym e)
  where
    by : (s : Shape-F Shape Field FirType) → or_itself typ (field_of_shape id s) ≡ or_itself typ (option_map (λ f. f.typ) (find (λ f. f.name.id == id) (fields_in s)))
    by (Shape-F.Unsigned w) = refl
    by (Shape-F.Signed w) = refl
    by Shape-F.Clock = refl
    by Shape-F.Reset = refl
    by Shape-F.AsyncReset = refl
    by (Shape-F.Bundle fs) = refl
    by (Shape-F.Vector element n) = refl

pub element_type_is : (typ : FirType) (found : Option FirType) → found ≡ element_in (out-Shape typ.shape) → element_type typ ≡ or_itself typ found
element_type_is typ found e = by (out-Shape typ.shape) ∙ ap (or_itself typ) (sym e)
  where
    by : (s : Shape-F Shape Field FirType) → or_itself typ (element_of_shape s) ≡ or_itself typ (element_in s)
    by (Shape-F.Unsigned w) = refl
    by (Shape-F.Signed w) = refl
    by Shape-F.Clock = refl
    by Shape-F.Reset = refl
    by Shape-F.AsyncReset = refl
    by (Shape-F.Bundle fs) = refl
    by (Shape-F.Vector element n) = refl

-- a choice, of which the second operand is reached
pub choice_made : (f : Expr → Weight) (es : List Expr) (condition first : Expr) (asked : ℕ) (w : Weight) (rest inner most : ℕ) → 2 ≤ length es
    → condition ≡ get_or es 0 condition → first ≡ get_or es 1 first → asked ≡ cap (f condition).most → w ≡ capped_weight (f first)
    → rest ≡ cap (most_of (map f (drop 2 es))) → inner ≡ max w.most rest → most ≡ max asked inner
    → made w.typ most ≡ capped_weight (of_choice (map f es))
choice_made f [] condition first asked w rest inner most two c d a e r i m = absurd (omega arith)
choice_made f (x ∷ []) condition first asked w rest inner most two c d a e r i m = absurd (omega arith)
choice_made f (x ∷ y ∷ es) condition first asked w rest inner most two c d a e r i m =
    let g = most_of (map f es) in
    let typ : w.typ ≡ (f y).typ = ap (λ v. v.typ) e ∙ ap (λ z. (f z).typ) d in
    let second : w.most ≡ cap (f y).most = ap (λ v. v.most) e ∙ ap (λ z. cap (f z).most) d in
    let one : asked ≡ cap (f x).most = a ∙ ap (λ z. cap (f z).most) c in
    let both : inner ≡ cap (max (f y).most g) = i ∙ ap₂ max second r ∙ cap_max (f y).most g in
    ap₂ made typ (m ∙ ap₂ max one both ∙ cap_max (f x).most (max (f y).most g))

take_all : {X : Type 0} (xs : List X) (n : ℕ) → length xs ≤ n → take n xs ≡ xs
take_all [] zero h = refl
take_all [] (suc n) h = refl
take_all (x ∷ xs) zero h = absurd (omega arith)
take_all (x ∷ xs) (suc n) h = ap (λ l. x ∷ l) (take_all xs n (omega arith))

pub rest_most : (f : Expr → Weight) (es : List Expr) (n rest : ℕ) → rest ≡ cap (most_of (map f (take n (drop 2 es)))) → length es ≤ n + 2
    → rest ≡ cap (most_of (map f (drop 2 es)))
rest_most f es n rest e h = e ∙ ap (λ l. cap (most_of (map f l))) (take_all (drop 2 es) n (behind es n h))
  where
    behind : (es : List Expr) (n : ℕ) → length es ≤ n + 2 → length (drop 2 es) ≤ n
    behind [] n h = omega arith
    behind (x ∷ []) n h = omega arith
    behind (x ∷ y ∷ es) n h = omega arith
