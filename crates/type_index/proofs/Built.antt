-- Trees that are made are right.
use Rattle.std.proofs.Common.{◌≡◌, ◌==◌, ℕ, zero, suc, ◌<◌, ◌≤◌, ◌-◌, ◌^◌, min, Bool, true, false, not, ◌||◌, ◌&&◌, List, [], ◌∷◌, ◌++◌, ◌+◌, map, sum, length, take, get_or, refl, sym, ap, ap₂, ◌∙◌, subst, arith, ◌⊎◌, inl, inr}
use Rattle.std.specs.Prelude.{Option, IfSome}
use Rattle.std.specs.List.{list_any}
use Rattle.std.proofs.lemmas.Grind.{common_steps}
use Rattle.std.proofs.lemmas.List.{take_more}
use Rattle.std.proofs.lemmas.List.Folds.{list_any-append}
use Rattle.place_text.specs.declared.place.Place.{Place}
use Rattle.fir_types.specs.declared.fir_type.FirType.{FirType}
use Rattle.fir_types.specs.declared.fir_type.FirType.{the_lemmas as type_lemmas}
use Rattle.fir_types.specs.declared.fir_type.Shape.{Shape}
use Rattle.fir_types.specs.declared.fir_type.Shape.TheVariants as shape
use Rattle.fir_types.specs.declared.fir_type.Shape.TheVariants.{outs-Unsigned, outs-Signed, outs-Clock, outs-Reset, outs-AsyncReset}
use Rattle.fir_types.specs.declared.fir_type.Shape.TheViews.{out-Shape}
use Rattle.fir_types.specs.declared.fir_type.Field.{Field}
use Rattle.fir_types.specs.Leaves.{count, field_count, leaves, field_leaves, is_clock_shape, is_signal_shape, has_clock, has_signal}
use Rattle.fir_types.specs.Passivity.{has_flip, field_has_flip}
use Rattle.fir_types.specs.Runs.{within}
use Rattle.fir_types.proofs.Layers.{count-bundle, count-field, flip-bundle, leaves-bundle, leaves-vector, some-fields, some-field, some-elements}
use Rattle.fir_types.proofs.Masks.{flip-vector}
use Rattle.fir_types.proofs.Runs.{within_last}
use Rattle.fir_tree.specs.LeafNames.{Texts}
use Rattle.fir_tree.specs.Caps.{cap}
use Rattle.fir_tree.specs.Texts.{way_bytes, field_bytes}
use Rattle.fir_tree.proofs.Capping.{cap_plus}
use Rattle.fir_tree.proofs.Wording.{ways-bundle}
use Rattle.fir_types.specs.declared.index.FieldIndex.{FieldIndex}
use Rattle.fir_types.specs.Indexes.{IsIndexOf}
use Rattle.fir_types.specs.Spots.{size, field_size}
use Rattle.fir_types.proofs.SpotLayers.{size-field, size-bundle, spots-vector}
use Rattle.type_index.specs.declared.tree.TypeIndex.{TypeIndex, the_lemmas}
use Rattle.type_index.specs.declared.tree.Inside.TheVariants as inside
use Rattle.type_index.specs.declared.tree.Inside.TheViews.{out-Inside}
use Rattle.type_index.specs.declared.gathered.Gathered.{Gathered}
use Rattle.type_index.specs.Knowing.{Matches, FieldsMatch, ground, vector, bundle, no_fields, one_field, is_ground, IsKnown, IsAmong, IsRight, places_of}
use Rattle.type_index.specs.Gathering.{Gathers}
use Rattle.type_index.proofs.Parts.{same_fields, weighed}

-- one field more

fields_push : {P : FirType → TypeIndex → Type 0} (fs : List Field) (xs : List TypeIndex) (f : Field) (x : TypeIndex) → FieldsMatch P fs xs → Matches P f.typ x
    → FieldsMatch P (fs ++ f ∷ []) (xs ++ x ∷ [])
fields_push [] [] f x no_fields m = one_field m no_fields
fields_push [] (y ∷ xs) f x r m = elim r [ ]
fields_push (g ∷ fs) [] f x r m = elim r [ ]
fields_push (g ∷ fs) (y ∷ xs) f x (one_field n r) m = one_field n (fields_push fs xs f x r m)

sum_push : (g : Field → ℕ) (fs : List Field) (f : Field) → sum (map g (fs ++ f ∷ [])) ≡ sum (map g fs) + g f
sum_push g fs f = grind (arith, common_steps)

cap_push : (g : Field → ℕ) (fs : List Field) (f : Field) (before own after : ℕ) → before ≡ cap (sum (map g fs)) → own ≡ cap (g f) → after ≡ cap (before + own)
    → after ≡ cap (sum (map g (fs ++ f ∷ [])))
cap_push g fs f before own after b o e = e ∙ ap₂ (λ x y. cap (x + y)) b o ∙ cap_plus (sum (map g fs)) (g f) ∙ ap cap (sym (sum_push g fs f))

flip-field : (f : Field) → field_has_flip f ≡ (f.flip || has_flip f.typ)
flip-field f = grind (arith, common_steps, type_lemmas)

none_of : (a b c : Bool) → (not a && not b && not c) ≡ not (a || ((c || b) || false))
none_of true true true = refl
none_of true true false = refl
none_of true false true = refl
none_of true false false = refl
none_of false true true = refl
none_of false true false = refl
none_of false false true = refl
none_of false false false = refl

places_push : (fs : List Field) (f : Field) (before own after : ℕ) → before ≡ min (sum (map field_size fs)) (2 ^ 64 - 1) → own ≡ min (size f.typ) (2 ^ 64 - 1)
    → after ≡ min (before + own) (2 ^ 64 - 1) → after ≡ min (sum (map field_size (fs ++ f ∷ []))) (2 ^ 64 - 1)
places_push fs f before own after b o e = omega (arith, b, o, e, sum_push field_size fs f, size-field f)

passive_push : (fs : List Field) (f : Field) (before own after : Bool) → before ≡ not (list_any field_has_flip fs) → own ≡ not (has_flip f.typ)
    → after ≡ (before && own && not f.flip) → after ≡ not (list_any field_has_flip (fs ++ f ∷ []))
passive_push fs f before own after b o e =
    e ∙ ap₂ (λ x y. x && y && not f.flip) b o ∙ none_of (list_any field_has_flip fs) (has_flip f.typ) f.flip
    ∙ ap (λ x. not (list_any field_has_flip fs || (x || false))) (sym (flip-field f)) ∙ ap not (sym (list_any-append field_has_flip fs (f ∷ [])))

any_push : (has : FirType → Bool) (fs : List Field) (f : Field) (before own after : Bool) → before ≡ list_any (λ field. has field.typ) fs → own ≡ has f.typ
    → after ≡ (before || own) → after ≡ list_any (λ field. has field.typ) (fs ++ f ∷ [])
any_push has fs f before own after b o e =
    e ∙ ap₂ (λ x y. x || y) b (o ∙ one (has f.typ)) ∙ sym (list_any-append (λ field. has field.typ) fs (f ∷ []))
  where
    one : (x : Bool) → x ≡ (x || false)
    one true = refl
    one false = refl

-- whether some leaf has a type of a kind
abbrev some_leaf : (FirType → Bool) → FirType → Bool
some_leaf q typ = list_any (λ leaf. q leaf.typ) (leaves typ)

some-bundle : (q : FirType → Bool) (typ : FirType) (fs : List Field) → typ.shape ≡ shape.Bundle fs → some_leaf q typ ≡ list_any (λ field. some_leaf q field.typ) fs
some-bundle q typ fs is = ap (list_any (λ leaf. q leaf.typ)) (leaves-bundle typ fs is) ∙ some-fields q fs ∙ each fs
  where
    each : (fs : List Field) → list_any (λ field. list_any (λ leaf. q leaf.typ) (field_leaves field)) fs ≡ list_any (λ field. some_leaf q field.typ) fs
    each [] = refl
    each (f ∷ fs) = ap₂ (λ x y. x || y) (some-field q f) (each fs)

-- a vector has one where its element has one and its length isn't 0
some-vector : (q : FirType → Bool) (typ element : FirType) (n : ℕ) → typ.shape ≡ shape.Vector element n → some_leaf q typ ≡ (not (n == 0) && some_leaf q element)
some-vector q typ element zero is = ap (list_any (λ leaf. q leaf.typ)) (leaves-vector typ element 0 is)
some-vector q typ element (suc n) is =
    ap (list_any (λ leaf. q leaf.typ)) (leaves-vector typ element (suc n) is) ∙ some-elements q (leaves element) (suc n) (omega arith) ∙ some n (some_leaf q element)
  where
    some : (n : ℕ) (x : Bool) → x ≡ (not (suc n == 0) && x)
    some n x = grind (arith, common_steps)

abbrev is_clock_type : FirType → Bool
is_clock_type typ = is_clock_shape (out-Shape typ.shape)

abbrev is_signal_type : FirType → Bool
is_signal_type typ = is_signal_shape (out-Shape typ.shape)

right : {P : FirType → TypeIndex → Type 0} {typ : FirType} {index : TypeIndex} → Matches P typ index → P typ index
right (ground g p) = p
right (vector e n i s q p m) = p
right (bundle fs a xs s q p m) = p

pub gathers_more : (texts : Texts) (fs : List Field) (f : Field) (part : TypeIndex) (before after : Gathered) (named_leaves named_bytes : ℕ)
    → named_leaves ≡ part.leaves
    → ((field : Field) → field.name.id ≡ f.name.id → part.leaves ≡ cap (count field.typ) → part.bytes ≡ cap (way_bytes texts field.typ) → named_bytes ≡ cap (field_bytes texts field))
    → after.parts ≡ before.parts ++ part ∷ [] → after.ways.leaves ≡ cap (before.ways.leaves + named_leaves) → after.ways.bytes ≡ cap (before.ways.bytes + named_bytes)
    → after.passive ≡ (before.passive && part.passive && not f.flip) → after.clocked ≡ (before.clocked || part.clocked)
    → after.signals ≡ (before.signals || part.signals) → after.places ≡ min (before.places + part.places) (2 ^ 64 - 1)
    → Gathers texts fs before → Matches (IsRight texts) f.typ part → Gathers texts (fs ++ f ∷ []) after
gathers_more texts fs f part before after named_leaves named_bytes nl nb p l b v c a z g m =
    let k : IsKnown f.typ part = (right m).0 in
    let w : part.bytes ≡ cap (way_bytes texts f.typ) = (right m).1 in
    record {
      parts = subst (FieldsMatch (IsRight texts) (fs ++ f ∷ [])) (sym p) (fields_push fs before.parts f part g.parts m);
      leaves = cap_push field_count fs f before.ways.leaves named_leaves after.ways.leaves g.leaves (nl ∙ k.leaves ∙ ap cap (sym (count-field f))) l;
      bytes = cap_push (field_bytes texts) fs f before.ways.bytes named_bytes after.ways.bytes g.bytes (nb f refl k.leaves w) b;
      passive = passive_push fs f before.passive part.passive after.passive g.passive k.passive v;
      clocked = any_push has_clock fs f before.clocked part.clocked after.clocked g.clocked k.clocked c;
      signals = any_push has_signal fs f before.signals part.signals after.signals g.signals k.signals a;
      places = places_push fs f before.places part.places after.places g.places k.places z;
    }

pub gathers_taken : (texts : Texts) (fs : List Field) (i : ℕ) (f : Field) (gathered : Gathered) → i < length fs → f ≡ get_or fs i f
    → Gathers texts (take i fs ++ f ∷ []) gathered → Gathers texts (take (i + 1) fs) gathered
gathers_taken texts fs i f gathered lt is g =
    subst (λ l. Gathers texts l gathered) (ap (λ x. take i fs ++ x ∷ []) is ∙ sym (take_more fs i f lt)) g

-- bundles

same_among : (a b : Option FieldIndex) (xs ys : List TypeIndex) → inside.Bundle a xs ≡ inside.Bundle b ys → a ≡ b
same_among a b xs ys h =
    let out : out-Inside (inside.Bundle a xs) ≡ out-Inside (inside.Bundle b ys) = ap out-Inside h in
    grind (arith, common_steps, the_lemmas)

pub bundle_matches : (texts : Texts) (typ : FirType) (fs : List Field) (gathered : Gathered) (among : Option FieldIndex) (index : TypeIndex) → typ.shape ≡ shape.Bundle fs
    → Gathers texts fs gathered → IfSome among (λ x. IsIndexOf x fs (map places_of gathered.parts)) → index.leaves ≡ gathered.ways.leaves → index.bytes ≡ gathered.ways.bytes
    → index.passive ≡ gathered.passive → index.clocked ≡ gathered.clocked → index.signals ≡ gathered.signals → index.places ≡ gathered.places → index.inside ≡ inside.Bundle among gathered.parts → Matches (IsRight texts) typ index
bundle_matches texts typ fs gathered among index is g a l b v c s z q =
    let own : IsAmong among fs = subst (λ ws. IfSome among (λ x. IsIndexOf x fs ws)) (weighed (λ t x p. p.0.places) fs gathered.parts g.parts) a in
    bundle fs among gathered.parts is q (
      record {
        leaves = l ∙ g.leaves ∙ ap cap (sym (count-bundle typ fs is));
        passive = v ∙ g.passive ∙ ap not (sym (flip-bundle typ fs is));
        clocked = c ∙ g.clocked ∙ sym (some-bundle is_clock_type typ fs is);
        signals = s ∙ g.signals ∙ sym (some-bundle is_signal_type typ fs is);
        places = z ∙ g.places ∙ ap (λ n. min n (2 ^ 64 - 1)) (sym (size-bundle typ fs is));
        among = λ fields other inners h k. subst (λ x. IsAmong x fields) (same_among among other gathered.parts inners (sym q ∙ k))
            (subst (IsAmong among) (same_fields fs fields (sym is ∙ h)) own);
      },
      b ∙ g.bytes ∙ ap cap (sym (ways-bundle texts typ fs is)),
    ) g.parts

-- vectors

pub vector_matches : (texts : Texts) (typ element : FirType) (n : ℕ) (inner index : TypeIndex) → typ.shape ≡ shape.Vector element n → Matches (IsRight texts) element inner
    → (inner.leaves ≡ cap (count element) → index.leaves ≡ cap (count typ))
    → (inner.leaves ≡ cap (count element) → inner.bytes ≡ cap (way_bytes texts element) → index.bytes ≡ cap (way_bytes texts typ))
    → index.passive ≡ inner.passive → index.clocked ≡ (not (n == 0) && inner.clocked) → index.signals ≡ (not (n == 0) && inner.signals) → index.places ≡ inner.places → index.inside ≡ inside.Vector inner → Matches (IsRight texts) typ index
vector_matches texts typ element n inner index is m l b v c s z q =
    let k : IsKnown element inner = (right m).0 in
    let w : inner.bytes ≡ cap (way_bytes texts element) = (right m).1 in
    vector element n inner is q (
      record {
        leaves = l k.leaves;
        passive = v ∙ k.passive ∙ ap not (sym (flip-vector typ element n is));
        clocked = c ∙ ap (λ x. not (n == 0) && x) k.clocked ∙ sym (some-vector is_clock_type typ element n is);
        signals = s ∙ ap (λ x. not (n == 0) && x) k.signals ∙ sym (some-vector is_signal_type typ element n is);
        places = z ∙ k.places ∙ ap (λ ss. min (length ss) (2 ^ 64 - 1)) (sym (spots-vector typ element n is));
        among = λ fields among inners h e. absurd cc;
      },
      b k.leaves w,
    ) m

abbrev around : Place × ℕ → FirType → FirType
around length typ = record { place = length.0; shape = shape.Vector typ length.1 }

abbrev pub Around : List (Place × ℕ) → List (Place × ℕ) → TypeIndex → TypeIndex → Type 0
Around lengths left innermost index =
    (texts : Texts) (typ : FirType) → Matches (IsRight texts) typ innermost
    → (whole : FirType) × (within left whole ≡ within lengths typ) × Matches (IsRight texts) whole index

pub around_begin : (lengths : List (Place × ℕ)) (innermost : TypeIndex) → Around lengths lengths innermost innermost
around_begin lengths innermost texts typ m = (typ, refl, m)

pub around_more : (lengths left after : List (Place × ℕ)) (last : Place × ℕ) (innermost inner index : TypeIndex) → left ≡ after ++ last ∷ []
    → ((texts : Texts) (typ element : FirType) → typ.shape ≡ shape.Vector element last.1 → Matches (IsRight texts) element inner → Matches (IsRight texts) typ index)
    → Around lengths left innermost inner → Around lengths after innermost index
around_more lengths left after last innermost inner index is step h texts typ m =
    let r = h texts typ m in
    (around last r.0, sym (within_last after last r.0) ∙ ap (λ l. within l r.0) (sym is) ∙ r.1, step texts (around last r.0) r.0 refl r.2)

pub around_end : (lengths left : List (Place × ℕ)) (innermost index : TypeIndex) → left ≡ [] → Around lengths left innermost index
    → (texts : Texts) (typ : FirType) → Matches (IsRight texts) typ innermost → Matches (IsRight texts) (within lengths typ) index
around_end lengths left innermost index is h texts typ m =
    let r = h texts typ m in
    subst (λ t. Matches (IsRight texts) t index) (sym (ap (λ l. within l r.0) is) ∙ r.1) r.2

-- types without parts

abbrev of_ground : ℕ → Bool → Bool → TypeIndex
of_ground places clocked signals = record { leaves = 1; bytes = 0; passive = true; clocked = clocked; signals = signals; places = places; inside = inside.Ground }

ground_matches : (texts : Texts) (typ : FirType) (places : ℕ) (clocked signals : Bool) → is_ground (out-Shape typ.shape) ≡ true
    → ((fields : List Field) → typ.shape ≡ shape.Bundle fields → ⊥) → count typ ≡ 1 → way_bytes texts typ ≡ 0 → has_flip typ ≡ false → has_clock typ ≡ clocked
    → has_signal typ ≡ signals → size typ ≡ places → places ≤ 1 → Matches (IsRight texts) typ (of_ground places clocked signals)
ground_matches texts typ places clocked signals g none c w f k s z l =
    ground g (
      record {
        leaves = ap cap (sym c);
        passive = ap not (sym f);
        clocked = sym k;
        signals = sym s;
        places = omega (arith, z, l);
        among = λ fields among inners h e. absurd (none fields h);
      },
      ap cap (sym w),
    )

pub unsigned_matches : (texts : Texts) (typ : FirType) (w : Option ℕ) → typ.shape ≡ shape.Unsigned w → Matches (IsRight texts) typ (of_ground 1 false false)
unsigned_matches texts typ w is =
    ground_matches texts typ 1 false false (ap is_ground (ap out-Shape is ∙ outs-Unsigned w)) (λ fields h. absurd cc) (grind (arith, common_steps, type_lemmas))
    (grind (arith, common_steps, type_lemmas)) (grind (arith, common_steps, type_lemmas)) (grind (arith, common_steps, type_lemmas)) (grind (arith, common_steps, type_lemmas))
    (grind (arith, common_steps, type_lemmas)) (omega arith)

pub signed_matches : (texts : Texts) (typ : FirType) (w : Option ℕ) → typ.shape ≡ shape.Signed w → Matches (IsRight texts) typ (of_ground 1 false false)
signed_matches texts typ w is =
    ground_matches texts typ 1 false false (ap is_ground (ap out-Shape is ∙ outs-Signed w)) (λ fields h. absurd cc) (grind (arith, common_steps, type_lemmas))
    (grind (arith, common_steps, type_lemmas)) (grind (arith, common_steps, type_lemmas)) (grind (arith, common_steps, type_lemmas)) (grind (arith, common_steps, type_lemmas))
    (grind (arith, common_steps, type_lemmas)) (omega arith)

pub clock_matches : (texts : Texts) (typ : FirType) → typ.shape ≡ shape.Clock → Matches (IsRight texts) typ (of_ground 0 true true)
clock_matches texts typ is =
    ground_matches texts typ 0 true true (ap is_ground (ap out-Shape is ∙ outs-Clock)) (λ fields h. absurd cc) (grind (arith, common_steps, type_lemmas))
    (grind (arith, common_steps, type_lemmas)) (grind (arith, common_steps, type_lemmas)) (grind (arith, common_steps, type_lemmas)) (grind (arith, common_steps, type_lemmas))
    (grind (arith, common_steps, type_lemmas)) (omega arith)

pub reset_matches : (texts : Texts) (typ : FirType) → typ.shape ≡ shape.Reset → Matches (IsRight texts) typ (of_ground 1 false false)
reset_matches texts typ is =
    ground_matches texts typ 1 false false (ap is_ground (ap out-Shape is ∙ outs-Reset)) (λ fields h. absurd cc) (grind (arith, common_steps, type_lemmas))
    (grind (arith, common_steps, type_lemmas)) (grind (arith, common_steps, type_lemmas)) (grind (arith, common_steps, type_lemmas)) (grind (arith, common_steps, type_lemmas))
    (grind (arith, common_steps, type_lemmas)) (omega arith)

pub async_matches : (texts : Texts) (typ : FirType) → typ.shape ≡ shape.AsyncReset → Matches (IsRight texts) typ (of_ground 1 false true)
async_matches texts typ is =
    ground_matches texts typ 1 false true (ap is_ground (ap out-Shape is ∙ outs-AsyncReset)) (λ fields h. absurd cc) (grind (arith, common_steps, type_lemmas))
    (grind (arith, common_steps, type_lemmas)) (grind (arith, common_steps, type_lemmas)) (grind (arith, common_steps, type_lemmas)) (grind (arith, common_steps, type_lemmas))
    (grind (arith, common_steps, type_lemmas)) (omega arith)

pub all_sized : (texts : Texts) (s : Shape) (typ : FirType) → ((w : Option ℕ) × (s ≡ shape.Unsigned w)) ⊎ ((w : Option ℕ) × (s ≡ shape.Signed w)) ⊎ (s ≡ shape.Reset) → typ.shape ≡ s
    → Matches (IsRight texts) typ (of_ground 1 false false)
all_sized texts s typ (inl (w, e)) is = unsigned_matches texts typ w (is ∙ e)
all_sized texts s typ (inr (inl (w, e))) is = signed_matches texts typ w (is ∙ e)
all_sized texts s typ (inr (inr e)) is = reset_matches texts typ (is ∙ e)

-- what is right is known, and has its ways

mutual
  pub weaker : {P Q : FirType → TypeIndex → Type 0} → ((t : FirType) (x : TypeIndex) → P t x → Q t x) → {typ : FirType} {index : TypeIndex} → Matches P typ index → Matches Q typ index
  weaker k {typ} {index} (ground g p) = ground g (k typ index p)
  weaker k {typ} {index} (vector e n i s q p m) = vector e n i s q (k typ index p) (weaker k m)
  weaker k {typ} {index} (bundle fs a xs s q p m) = bundle fs a xs s q (k typ index p) (weaker_fields k m)

  weaker_fields : {P Q : FirType → TypeIndex → Type 0} → ((t : FirType) (x : TypeIndex) → P t x → Q t x) → {fs : List Field} {xs : List TypeIndex} → FieldsMatch P fs xs → FieldsMatch Q fs xs
  weaker_fields k no_fields = no_fields
  weaker_fields k (one_field m r) = one_field (weaker k m) (weaker_fields k r)

pub nothing_gathered : (texts : Texts) (gathered : Gathered) → gathered.parts ≡ [] → gathered.ways.leaves ≡ 0 → gathered.ways.bytes ≡ 0 → gathered.passive ≡ true
    → gathered.clocked ≡ false → gathered.signals ≡ false → gathered.places ≡ 0 → Gathers texts [] gathered
nothing_gathered texts gathered p l b v c s z =
    record { parts = subst (FieldsMatch (IsRight texts) []) (sym p) no_fields; leaves = l; bytes = b; passive = v; clocked = c; signals = s; places = z }
