-- Names that one before them has as well, found with the set of those before.
use Rattle.std.proofs.Common.{◌≡◌, ℕ, ◌+◌, ◌<◌, Bool, true, false, List, [], ◌∷◌, ◌++◌, map, length, take, get_or, refl, sym, ap, ap₂, ◌∙◌, append_assoc, append-nil, ◌||◌, not, arith}
use Rattle.std.specs.Prelude.{nat_eq}
use Rattle.std.specs.List.{list_any, flat_map}
use Rattle.std.proofs.lemmas.Grind.{common_steps}
use Rattle.std.proofs.lemmas.List.{take_more, map-append}
use Rattle.std.proofs.lemmas.List.Folds.{list_any-append}
use Rattle.indexmap.specs.IndexSet.{insert_key}
use Rattle.fir_types.proofs.Held.{held_key}
use Rattle.fir_types.specs.declared.fir_type.FirType.{FirType, the_lemmas}
use Rattle.fir_types.specs.declared.fir_type.Shape.TheVariants as shape
use Rattle.fir_types.specs.declared.fir_type.Field.{Field, fold-Field}
use Rattle.fir_types.specs.declared.name.Name.{Name}
use Rattle.type_check.specs.declared.fault.TypeFault.{TypeFault}
use Rattle.type_check.specs.declared.fault.TypeFault.TheVariants.{FieldTwice}
use Rattle.type_check.specs.Parts.{unless, when}
use Rattle.type_check.specs.Texts.{has_name, seconds_behind, FieldFaults, twice_in_shape, field_faults, twice_in}

-- the names of fields
abbrev pub names_of : List Field → List Name
names_of fields = map (λ f. f.name) fields

seconds-append : (before xs ys : List Name) → seconds_behind before (xs ++ ys) ≡ seconds_behind before xs ++ seconds_behind (before ++ xs) ys
seconds-append before [] ys = ap (λ b. seconds_behind b ys) (sym (append-nil before))
seconds-append before (x ∷ xs) ys =
    ap (λ l. when (has_name before x) (FieldTwice x.place) ++ l)
    (seconds-append (before ++ x ∷ []) xs ys ∙ ap (λ b. seconds_behind (before ++ x ∷ []) xs ++ seconds_behind b ys) (append_assoc before (x ∷ []) xs))
    ∙ sym (append_assoc (when (has_name before x) (FieldTwice x.place)) _ _)

pub unless-not : (b : Bool) (fault : TypeFault) → unless (not b) fault ≡ when b fault
unless-not true fault = refl
unless-not false fault = refl

names_more : (fields : List Field) (i : ℕ) (field : Field) → i < length fields → field ≡ get_or fields i field → names_of (take (i + 1) fields) ≡ names_of (take i fields) ++ field.name ∷ []
names_more fields i field lt is =
    ap names_of (take_more fields i field lt) ∙ map-append (λ (f : Field). f.name) (take i fields) (get_or fields i field ∷ [])
    ∙ ap (λ (f : Field). names_of (take i fields) ++ f.name ∷ []) (sym is)

pub seconds_more : (fields : List Field) (i : ℕ) (field : Field) (old faults after : List TypeFault) (ids : List ℕ) (added : Bool) → i < length fields → field ≡ get_or fields i field
    → faults ≡ old ++ seconds_behind [] (names_of (take i fields))
    → ((id : ℕ) → list_any (nat_eq id) ids ≡ list_any (λ name. nat_eq id name.id) (names_of (take i fields)))
    → added ≡ not (list_any (nat_eq field.name.id) ids)
    → after ≡ faults ++ unless added (FieldTwice field.name.place)
    → after ≡ old ++ seconds_behind [] (names_of (take (i + 1) fields))
seconds_more fields i field old faults after ids added lt is e held a f =
    let name = field.name in
    let before = names_of (take i fields) in
    let again : unless added (FieldTwice name.place) ≡ when (has_name before name) (FieldTwice name.place)
    = ap (λ b. unless b (FieldTwice name.place)) a ∙ unless-not _ (FieldTwice name.place) ∙ ap (λ b. when b (FieldTwice name.place)) (held name.id) in
    f ∙ ap₂ (λ l m. l ++ m) e again ∙ append_assoc old _ _
    ∙ ap (λ l. old ++ l) (ap (λ l. seconds_behind [] before ++ l) (sym (append-nil _)) ∙ sym (seconds-append [] before (name ∷ [])) ∙ ap (seconds_behind []) (sym (names_more fields i field lt is)))

pub ids_more : (fields : List Field) (i : ℕ) (field : Field) (ids after : List ℕ) → i < length fields → field ≡ get_or fields i field
    → ((id : ℕ) → list_any (nat_eq id) ids ≡ list_any (λ name. nat_eq id name.id) (names_of (take i fields)))
    → after ≡ insert_key nat_eq ids field.name.id
    → (id : ℕ) → list_any (nat_eq id) after ≡ list_any (λ name. nat_eq id name.id) (names_of (take (i + 1) fields))
ids_more fields i field ids after lt is held f id =
    let name = field.name in
    ap (list_any (nat_eq id)) f ∙ held_key ids name.id id ∙ ap (λ b. b || (nat_eq id name.id || false)) (held id)
    ∙ sym (list_any-append (λ (n : Name). nat_eq id n.id) (names_of (take i fields)) (name ∷ []))
    ∙ ap (list_any (λ (n : Name). nat_eq id n.id)) (sym (names_more fields i field lt is))

-- the second names of a bundle, and those of its fields' types

abbrev faults_in : Field → FieldFaults
faults_in = fold-Field (List TypeFault) FieldFaults (List TypeFault) twice_in_shape field_faults (λ t. t.shape)

faults_in-field : (f : Field) → faults_in f ≡ (f.name, twice_in f.typ)
faults_in-field f = grind (arith, common_steps, the_lemmas)

names_in : (fields : List Field) → map (λ f. f.0) (map faults_in fields) ≡ names_of fields
names_in [] = refl
names_in (f ∷ fs) = ap₂ (λ name names. name ∷ names) (ap (λ e. e.0) (faults_in-field f)) (names_in fs)

types_in : (fields : List Field) → flat_map (λ f. f.1) (map faults_in fields) ≡ flat_map (λ f. twice_in f.typ) fields
types_in [] = refl
types_in (f ∷ fs) = ap₂ (λ l m. l ++ m) (ap (λ e. e.1) (faults_in-field f)) (types_in fs)

pub twice-bundle : (t : FirType) (fields : List Field) → t.shape ≡ shape.Bundle fields → twice_in t ≡ seconds_behind [] (names_of fields) ++ flat_map (λ f. twice_in f.typ) fields
twice-bundle t fields e = let a = names_in fields in let b = types_in fields in grind (arith, common_steps, the_lemmas, a, b)
