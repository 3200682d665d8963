-- The registers of components, one more at a time.
use Rattle.std.proofs.Common.{◌≡◌, ℕ, zero, suc, ◌+◌, ◌<◌, List, [], ◌∷◌, ◌++◌, map, take, length, get_or, Option, Some, None, refl, sym, ap, ap₂, ◌∙◌, subst, arith, append_assoc, append-nil, ◌⊎◌, inl, inr, ⊎_elim}
use Rattle.std.specs.Prelude.{min}
use Rattle.std.specs.List.{slice_get}
use Rattle.std.proofs.lemmas.Grind.{common_steps}
use Rattle.std.proofs.lemmas.List.{map_more}
use Rattle.fir_types.specs.declared.leaf.TypeLeaf.{TypeLeaf}
use Rattle.fir_types.specs.Leaves.{leaves}
use Rattle.fir_tree.specs.declared.expr.Expr.{Expr}
use Rattle.bit_words.specs.Values.{integer_of}
use Rattle.prim_ops.specs.Values.{fitted}
use Rattle.fir_meaning.specs.Components.{A_reset_register, kind_of_leaf, width_of_leaf}
use Rattle.ground_net.specs.Grounds.{value, mentions}
use Rattle.ground_net.specs.Shapes.{shaped, shape}
use Rattle.ground_net.specs.declared.ground.Ground.{Ground}
use Rattle.ground_net.specs.declared.net.NetRegister.{NetRegister}
use Rattle.ground_net.specs.declared.net.NetReset.{NetReset}
use Rattle.ground_exprs.specs.declared.source.Source.{Source}
use Rattle.ground_exprs.specs.Sources.{Entries, IsLowered, IsFitted}
use Rattle.lower_aggregates.specs.declared.pieces.Piece.{Piece}
use Rattle.lower_aggregates.specs.Held.{held_part}
use Rattle.lower_aggregates.specs.Parts.{Part}
use Rattle.lower_aggregates.specs.Registers.{IsInit, ResetTo, AreFirst, AreOwnBy, AreOwn, AreRegisters}

some_same : {A : Type 0} {x y : A} → Some x ≡ Some y → x ≡ y
some_same {A} {x} e = ap (or_first x) e
  where
    or_first : A → Option A → A
    or_first d (Some z) = z
    or_first d None = d

none_some : {A : Type 0} {B : Type 0} {x : A} → None ≡ Some x → B
none_some e = absurd cc

one_more : (entries : Entries) (ps : List Part) (p : Part) (rs own : List NetRegister) → AreRegisters entries ps rs → AreOwn entries p own → AreRegisters entries (ps ++ p ∷ []) (rs ++ own)
one_more entries [] p rs own h o = (own, [], ap (λ l. l ++ own) h ∙ sym (append-nil own), o, refl)
one_more entries (q ∷ ps) p rs own h o =
    (h.0, h.1 ++ own, ap (λ l. l ++ own) h.2 ∙ append_assoc h.0 h.1 own, h.3, one_more entries ps p h.1 own h.4 o)

pub registers_more : (entries : Entries) (pieces : List Piece) (i : ℕ) (x : Piece) (rs own after : List NetRegister) → i < length pieces → x ≡ get_or pieces i x
    → AreRegisters entries (map held_part (take i pieces)) rs → AreOwn entries (held_part x) own → after ≡ rs ++ own → AreRegisters entries (map held_part (take (i + 1) pieces)) after
registers_more entries pieces i x rs own after l is h o a =
    let split : map held_part (take (i + 1) pieces) ≡ map held_part (take i pieces) ++ held_part x ∷ [] =
    map_more held_part pieces i x l ∙ ap (λ y. map held_part (take i pieces) ++ held_part y ∷ []) (sym is) in
    subst (λ ps. AreRegisters entries ps after) (sym split) (subst (AreRegisters entries (map held_part (take i pieces) ++ held_part x ∷ [])) (sym a)
    (one_more entries (map held_part (take i pieces)) (held_part x) rs own h o))

-- One leaf more

pub first_none : (p : Part) (Has : ℕ → TypeLeaf → Option NetReset → Type 0) → AreFirst p Has 0 []
first_none p Has = record { counted = refl; each = λ k leaf r e f. none_some f }

get_pushed : {A : Type 0} (xs : List A) (x : A) (j : ℕ) (y : A) → slice_get (xs ++ x ∷ []) j ≡ Some y → (slice_get xs j ≡ Some y) ⊎ ((j ≡ length xs) × (x ≡ y))
get_pushed [] x zero y e = inr (refl, some_same e)
get_pushed [] x (suc j) y e = none_some e
get_pushed (z ∷ zs) x zero y e = inl e
get_pushed (z ∷ zs) x (suc j) y e = ⊎_elim (λ l. inl l) (λ r. inr (ap suc r.0, r.1)) (get_pushed zs x j y e)

length_pushed : {A : Type 0} (xs : List A) (x : A) (k : ℕ) → length xs ≡ k → length (xs ++ x ∷ []) ≡ k + 1
length_pushed xs x k e = grind (arith, common_steps, e)

pub first_more : (p : Part) (Has : ℕ → TypeLeaf → Option NetReset → Type 0) (k number : ℕ) (own after : List NetRegister) (r : NetRegister) → AreFirst p Has k own → number ≡ p.first + k → r.leaf ≡ number
    → ((leaf : TypeLeaf) → slice_get (leaves p.typ) k ≡ Some leaf → Has k leaf r.reset) → after ≡ own ++ r ∷ [] → AreFirst p Has (k + 1) after
first_more p Has k number own after r h n l has a = subst (AreFirst p Has (k + 1)) (sym a) (record {
  counted = length_pushed own r k h.counted;
  each = λ j leaf s e f. ⊎_elim (λ old. h.each j leaf s e old) (λ new. last j leaf s e new.0 new.1) (get_pushed own r j s f);
})
  where
    last : (j : ℕ) (leaf : TypeLeaf) (s : NetRegister) → slice_get (leaves p.typ) j ≡ Some leaf → j ≡ length own → r ≡ s → (s.leaf ≡ p.first + j) × Has j leaf s.reset
    last j leaf s e m same =
        let place : k ≡ j = sym (m ∙ h.counted) in
        subst (λ i. (s.leaf ≡ p.first + i) × Has i leaf s.reset) place
        (subst (λ t. (t.leaf ≡ p.first + k) × Has k leaf t.reset) same (l ∙ n, has leaf (ap (slice_get (leaves p.typ)) place ∙ e)))

-- the leaf of a place
pub item_is : {A : Type 0} (xs : List A) (k : ℕ) (d x y : A) → x ≡ get_or xs k d → slice_get xs k ≡ Some y → x ≡ y
item_is [] k d x y e f = none_some f
item_is (z ∷ xs) zero d x y e f = e ∙ some_same f
item_is (z ∷ xs) (suc k) d x y e f = item_is xs k d x y e f

pub reset_there : (reset : Ground) (inits : List Source) (k : ℕ) (leaf here : TypeLeaf) (source : Option Source) (n : NetReset) → here ≡ leaf → n.reset ≡ reset → source ≡ slice_get inits k → IsInit source here n.init
    → ResetTo reset inits k leaf (Some n)
reset_there reset inits k leaf here source n same r s h = (n, refl, r, subst (λ o. IsInit o leaf n.init) s (subst (λ l. IsInit source l n.init) same h))

pub own_reset : (entries : Entries) (p : Part) (clock reset init : Expr) (own : List NetRegister) (sources : List Source) (s : Source) (inits : List Source) → p.sort ≡ A_reset_register clock reset init
    → IsLowered entries reset sources → sources ≡ s ∷ [] → IsLowered entries init inits → AreFirst p (ResetTo s.expr inits) (length (leaves p.typ)) own → AreOwn entries p own
own_reset entries p clock reset init own sources s inits e low one ini first =
    subst (λ z. AreOwnBy entries p z own) (sym e) (s, inits, subst (IsLowered entries reset) one low, ini, first)

fitted_of : (own fit s : Source) → IsFitted own fit → own.expr ≡ s.expr → own.kind ≡ s.kind → own.width ≡ s.width → IsFitted s fit
fitted_of own fit s f x k w =
    let told = ap₂ (λ a b. Some (shaped a b)) k w in
    record {
      value = λ table instant sh has. f.value table instant (ap (λ e. shape e table) x ∙ sh ∙ sym told) has ∙ ap (λ e. fitted fit.kind fit.width (integer_of (value e instant))) x;
      shape = λ table sh. f.shape table (ap (λ e. shape e table) x ∙ sh ∙ sym told);
      mentions = f.mentions ∙ ap mentions x;
    }

pub init_there : (o : Option Source) (s own fit : Source) (leaf : TypeLeaf) (init : Ground) → o ≡ Some s → init ≡ fit.expr → fit.kind ≡ kind_of_leaf leaf → fit.width ≡ min (width_of_leaf leaf) 128 → IsFitted own fit
    → own.expr ≡ s.expr → own.kind ≡ s.kind → own.width ≡ s.width → IsInit o leaf init
init_there o s own fit leaf init e i k w f x a b = subst (λ z. IsInit z leaf init) (sym e) (fit, i, k, w, fitted_of own fit s f x a b)
