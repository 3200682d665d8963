-- What references and choices of a module came to, when one more is seen, and when one more component is known.
use Rattle.std.proofs.Common.{◌≡◌, ℕ, ◌+◌, zero, suc, nat_eq, Bool, true, false, ◌&&◌, ◌<◌, cond, List, [], ◌∷◌, ◌++◌, map, zip, length, length-append, get_or, Option, Some, None, is_some, if◌then◌else◌, ◌⊎◌, inl, inr, refl, sym, ap, ap₂, ◌∙◌, subst, arith}
use Rattle.std.specs.Prelude.{slice_get}
use Rattle.std.specs.Map.{lookup}
use Rattle.std.proofs.lemmas.Bool.{eqb-true}
use Rattle.std.proofs.lemmas.Option.{slice_get_read, slice_get_within}
use Rattle.std.proofs.Math.Seq.{get_or-append_seam}
use Rattle.fir_types.specs.declared.fir_type.FirType.{FirType}
use Rattle.prim_ops.specs.declared.widths.Width.{Width}
use Rattle.width_rules.specs.declared.component.Component.{Component}
use Rattle.width_rules.specs.Sources.{Known, component, component_or_none, known_with, named}
use Rattle.part_fits.specs.declared.choices.Seen.{Seen}
use Rattle.part_fits.specs.declared.choices.Choices.{Choices}
use Rattle.part_fits.specs.declared.reference.Step.{Step}
use Rattle.part_fits.specs.declared.reference.Step.TheVariants as own
use Rattle.part_fits.specs.declared.reference.Reference.{Reference}
use Rattle.part_fits.specs.contracts.reference.StepPartialEq.TheImpl as step_test
use Rattle.part_fits.specs.Widths.{slot_width, wider_of}
use Rattle.part_fits.specs.Seen.{step_to, part_at, IsSeen, IsSeenAt, IsPart, IsChoice, same_reference, same_pair, AreChoices, Keeps}
use lib.Pointwise.{pointwise}
use lib.Dec.{eqb}

-- Keys that pass the test are the same.

both_true : (a b : Bool) → (a && b) ≡ true → (a ≡ true) × (b ≡ true)
both_true true true h = (refl, refl)
both_true true false h = absurd cc
both_true false b h = absurd cc

abbrev step_eq : Step → Step → Bool
step_eq = (step_test.eq-value).it

step_equal : (a b : Step) → step_eq a b ≡ true → a ≡ b
step_equal (own.Field m) (own.Field n) e = ap own.Field (eqb-true m n e)
step_equal (own.Field m) own.Element e = absurd cc
step_equal own.Element (own.Field n) e = absurd cc
step_equal own.Element own.Element e = refl

steps_equal : (a b : List Step) → pointwise step_eq a b ≡ true → a ≡ b
steps_equal [] [] e = refl
steps_equal [] (y ∷ b) e = absurd cc
steps_equal (x ∷ a) [] e = absurd cc
steps_equal (x ∷ a) (y ∷ b) e =
    let both = both_true (step_eq x y) (pointwise step_eq a b) e in
    ap₂ (λ s ss. s ∷ ss) (step_equal x y both.0) (steps_equal a b both.1)

same_name : (a b : Reference) → same_reference a b ≡ true → a.name ≡ b.name
same_name a b e = eqb-true a.name b.name (both_true (eqb a.name b.name) (pointwise step_eq a.steps.items b.steps.items) e).0

same_part : (known : Known) (a b : Reference) → same_reference a b ≡ true → part_at known a ≡ part_at known b
same_part known a b e =
    let steps = steps_equal a.steps.items b.steps.items (both_true (eqb a.name b.name) (pointwise step_eq a.steps.items b.steps.items) e).1 in
    ap₂ (λ name ss. named (map step_to ss) (component known name)) (same_name a b e) steps

pair_equal : (a b : ℕ × ℕ) → same_pair a b ≡ true → (a.0 ≡ b.0) × (a.1 ≡ b.1)
pair_equal a b e =
    let both = both_true (nat_eq a.0 b.0) (nat_eq a.1 b.1) e in
    (eqb-true a.0 b.0 both.0, eqb-true a.1 b.1 both.1)

-- what is found once one more is there
told : (b : Bool) (given found : ℕ) (before : Option ℕ) → cond b (Some given) before ≡ Some found → (before ≡ Some found) ⊎ ((b ≡ true) × (given ≡ found))
told true given found before h = inr (refl, cc)
told false given found before h = inl h

-- What is seen stays.

still : (old more : List Seen) (n : ℕ) (x : Seen) → slice_get old n ≡ Some x → slice_get (old ++ more) n ≡ Some x
still [] more zero x h = absurd cc
still [] more (suc n) x h = absurd cc
still (y ∷ old) more zero x h = h
still (y ∷ old) more (suc n) x h = still old more n x h

pub keeps_pushed : (old new : List Seen) (one : Seen) → new ≡ old ++ one ∷ [] → Keeps old new
keeps_pushed old new one is number typ ws h = record {
  one = h.one;
  there' = ap (λ all. slice_get all number) is ∙ still old (one ∷ []) number h.one h.there';
  is = h.is;
}

pub pushed_at : (old new : List Seen) (one : Seen) (number : ℕ) (typ : FirType) (ws : List Width) → number ≡ length old → new ≡ old ++ one ∷ [] → IsSeen typ ws one → IsSeenAt new number typ ws
pushed_at old new one number typ ws at is h =
    let long : length new ≡ length old + 1 = ap length is ∙ length-append old (one ∷ []) in
    let got : one ≡ get_or new number one = sym (ap₂ (λ all n. get_or all n one) is at ∙ get_or-append_seam old one [] one) in
    record { one = one; there' = slice_get_read new (length new) number one refl (omega (arith, at, long)) got; is = h }

pub within : (all : List Seen) (number : ℕ) (typ : FirType) (ws : List Width) → IsSeenAt all number typ ws → number < length all
within all number typ ws h = slice_get_within all number h.one h.there'

-- what is read at a number is what stands there
pub read_at : (all : List Seen) (number : ℕ) (x : Seen) (typ : FirType) (ws : List Width) → number < length all → x ≡ get_or all number x → IsSeenAt all number typ ws → IsSeen typ ws x
read_at all number x typ ws lt got h =
    subst (λ (s : Seen). IsSeen typ ws s) (one h.one x (sym h.there' ∙ slice_get_read all (length all) number x refl lt got)) h.is
  where
    one : (a b : Seen) → Some a ≡ Some b → a ≡ b
    one a b e = cc

unique : (all : List Seen) (number : ℕ) (typ other : FirType) (ws vs : List Width) → IsSeenAt all number typ ws → IsSeenAt all number other vs → (typ ≡ other) × (ws ≡ vs)
unique all number typ other ws vs h k =
    let same : h.one ≡ k.one = one h.one k.one (sym h.there' ∙ k.there') in
    (sym h.is.typ_is ∙ ap (λ (s : Seen). s.typ) same ∙ k.is.typ_is, sym h.is.widths_are ∙ ap (λ (s : Seen). s.widths) same ∙ k.is.widths_are)
  where
    one : (a b : Seen) → Some a ≡ Some b → a ≡ b
    one a b e = cc

-- the choice that is kept is that of the two
pub choice_kept : (all : List Seen) (pair : ℕ × ℕ) (number : ℕ) (typ other : FirType) (firsts seconds : List Width) → IsChoice all pair number → IsSeenAt all pair.0 typ firsts → IsSeenAt all pair.1 other seconds
    → IsSeenAt all number typ (map wider_of (zip firsts seconds))
choice_kept all pair number typ other firsts seconds h first second =
    let one = unique all pair.0 h.typ typ h.firsts firsts h.first first in
    let two = unique all pair.1 h.other other h.seconds seconds h.second second in
    subst (λ t. IsSeenAt all number t (map wider_of (zip firsts seconds))) one.0
    (subst (λ ws. IsSeenAt all number h.typ (map wider_of (zip ws seconds))) one.1 (subst (λ vs. IsSeenAt all number h.typ (map wider_of (zip h.firsts vs))) two.1 h.chosen))

-- the choice between two that were read
pub chosen_seen : (x y one : Seen) (typ other : FirType) (firsts seconds : List Width) → IsSeen x.typ (map wider_of (zip x.widths y.widths)) one → IsSeen typ firsts x → IsSeen other seconds y
    → IsSeen typ (map wider_of (zip firsts seconds)) one
chosen_seen x y one typ other firsts seconds h first second =
    subst (λ t. IsSeen t (map wider_of (zip firsts seconds)) one) first.typ_is
    (subst (λ ws. IsSeen x.typ (map wider_of (zip ws seconds)) one) first.widths_are (subst (λ vs. IsSeen x.typ (map wider_of (zip x.widths vs)) one) second.widths_are h))

-- where the first of two that were read is as wide, it stands for the choice
pub wide_seen : (all : List Seen) (number : ℕ) (x y : Seen) (typ other : FirType) (firsts seconds : List Width) → map wider_of (zip x.widths y.widths) ≡ x.widths → IsSeen typ firsts x → IsSeen other seconds y
    → IsSeenAt all number typ firsts → IsSeenAt all number typ (map wider_of (zip firsts seconds))
wide_seen all number x y typ other firsts seconds wide first second h =
    subst (IsSeenAt all number typ)
    (sym first.widths_are ∙ sym wide ∙ ap₂ (λ ws vs. map wider_of (zip ws vs)) first.widths_are second.widths_are) h

-- a part that was found
pub part_seen : (ws : List Width) (sized : Component) (typ : FirType) (widths : List Width) (one : Seen) → typ ≡ sized.part.typ → widths ≡ map (slot_width ws) sized.slots → IsSeen typ widths one
    → IsSeen sized.part.typ (map (slot_width ws) sized.slots) one
part_seen ws sized typ widths one t w h = subst (λ t. IsSeen t (map (slot_width ws) sized.slots) one) t (subst (λ ws. IsSeen typ ws one) w h)

choice_still : (old new : List Seen) (pair : ℕ × ℕ) (number : ℕ) → Keeps old new → IsChoice old pair number → IsChoice new pair number
choice_still old new pair number keeps h = record {
  typ = h.typ;
  other = h.other;
  firsts = h.firsts;
  seconds = h.seconds;
  first = keeps pair.0 h.typ h.firsts h.first;
  second = keeps pair.1 h.other h.seconds h.second;
  chosen = keeps number h.typ (map wider_of (zip h.firsts h.seconds)) h.chosen;
}

part_still : (ws : List Width) (old new : List Seen) (number : ℕ) (sized : Component) → Keeps old new → IsPart ws old number sized → IsPart ws new number sized
part_still ws old new number sized keeps h = keeps number sized.part.typ (map (slot_width ws) sized.slots) h

-- One more is kept.

pub held_pushed : (ws : List Width) (known : Known) (a b : Choices) → b.references.entries ≡ a.references.entries → b.pairs.entries ≡ a.pairs.entries → Keeps a.seen.items b.seen.items
    → AreChoices ws known a → AreChoices ws known b
held_pushed ws known a b r p keeps h = record {
  are_known = λ key number found. h.are_known key number (sym (ap (lookup (same_reference key)) r) ∙ found);
  references = λ key number found. part_still ws a.seen.items b.seen.items number (part_at known key) keeps (h.references key number (sym (ap (lookup (same_reference key)) r) ∙ found));
  pairs = λ pair number found. choice_still a.seen.items b.seen.items pair number keeps (h.pairs pair number (sym (ap (lookup (same_pair pair)) p) ∙ found));
}

pub held_reference : (ws : List Width) (known : Known) (a b : Choices) (key : Reference) (given : ℕ)
    → ((q : Reference) → lookup (same_reference q) b.references.entries ≡ cond (same_reference key q) (Some given) (lookup (same_reference q) a.references.entries)) → b.pairs.entries ≡ a.pairs.entries
    → b.seen.items ≡ a.seen.items → is_some (lookup (nat_eq key.name) known) ≡ true → IsPart ws a.seen.items given (part_at known key) → AreChoices ws known a → AreChoices ws known b
held_reference ws known a b key given r p s is part h = record {
  are_known = λ one number found. by_known one number (either one number found);
  references = λ one number found. subst (λ all. IsPart ws all number (part_at known one)) (sym s) (by_part one number (either one number found));
  pairs = λ pair number found. subst (λ all. IsChoice all pair number) (sym s) (h.pairs pair number (sym (ap (lookup (same_pair pair)) p) ∙ found));
}
  where
    either : (one : Reference) (number : ℕ) → lookup (same_reference one) b.references.entries ≡ Some number → (lookup (same_reference one) a.references.entries ≡ Some number) ⊎ ((same_reference key one ≡ true) × (given ≡ number))
    either one number found = told (same_reference key one) given number (lookup (same_reference one) a.references.entries) (sym (r one) ∙ found)

    by_known : (one : Reference) (number : ℕ) → (lookup (same_reference one) a.references.entries ≡ Some number) ⊎ ((same_reference key one ≡ true) × (given ≡ number)) → is_some (lookup (nat_eq one.name) known) ≡ true
    by_known one number (inl old) = h.are_known one number old
    by_known one number (inr now) = ap (λ name. is_some (lookup (nat_eq name) known)) (sym (same_name key one now.0)) ∙ is

    by_part : (one : Reference) (number : ℕ) → (lookup (same_reference one) a.references.entries ≡ Some number) ⊎ ((same_reference key one ≡ true) × (given ≡ number)) → IsPart ws a.seen.items number (part_at known one)
    by_part one number (inl old) = h.references one number old
    by_part one number (inr now) =
        subst (λ n. IsPart ws a.seen.items n (part_at known one)) now.1 (subst (λ (c : Component). IsPart ws a.seen.items given c) (same_part known key one now.0) part)

pub held_pair : (ws : List Width) (known : Known) (a b : Choices) (pair : ℕ × ℕ) (given : ℕ)
    → ((q : ℕ × ℕ) → lookup (same_pair q) b.pairs.entries ≡ cond (same_pair pair q) (Some given) (lookup (same_pair q) a.pairs.entries)) → b.references.entries ≡ a.references.entries
    → b.seen.items ≡ a.seen.items → IsChoice a.seen.items pair given → AreChoices ws known a → AreChoices ws known b
held_pair ws known a b pair given p r s is h = record {
  are_known = λ key number found. h.are_known key number (sym (ap (lookup (same_reference key)) r) ∙ found);
  references = λ key number found. subst (λ all. IsPart ws all number (part_at known key)) (sym s) (h.references key number (sym (ap (lookup (same_reference key)) r) ∙ found));
  pairs = λ one number found. subst (λ all. IsChoice all one number) (sym s)
      (by one number (told (same_pair pair one) given number (lookup (same_pair one) a.pairs.entries) (sym (p one) ∙ found)));
}
  where
    by : (one : ℕ × ℕ) (number : ℕ) → (lookup (same_pair one) a.pairs.entries ≡ Some number) ⊎ ((same_pair pair one ≡ true) × (given ≡ number)) → IsChoice a.seen.items one number
    by one number (inl old) = h.pairs one number old
    by one number (inr now) =
        let same = pair_equal pair one now.0 in
        subst (λ n. IsChoice a.seen.items one n) now.1 (subst (λ (q : ℕ × ℕ). IsChoice a.seen.items q given) (ap₂ (λ x y. (x, y)) same.0 same.1) is)

-- Nothing is seen.

pub held_none : (ws : List Width) (known : Known) (choices : Choices) → choices.references.entries ≡ [] → choices.pairs.entries ≡ [] → AreChoices ws known choices
held_none ws known choices r p = record {
  are_known = λ key number found. none number (sym (ap (lookup (same_reference key)) r) ∙ found);
  references = λ key number found. none number (sym (ap (lookup (same_reference key)) r) ∙ found);
  pairs = λ pair number found. none number (sym (ap (lookup (same_pair pair)) p) ∙ found);
}
  where
    none : {X : Type 0} (number : ℕ) → None ≡ Some number → X
    none number e = absurd cc

-- One more component is known.

abbrev with_one : Known → ℕ → Component → Bool → Known
with_one known id sized is = if is then known else known ++ (id, sized) ∷ []

found_still : (known : Known) (name id : ℕ) (sized : Component) → is_some (lookup (nat_eq name) known) ≡ true → lookup (nat_eq name) (known ++ (id, sized) ∷ []) ≡ lookup (nat_eq name) known
found_still [] name id sized h = absurd cc
found_still (k ∷ known) name id sized h = by (nat_eq name k.0) (found_still known name id sized) h
  where
    by : (b : Bool) → (is_some (lookup (nat_eq name) known) ≡ true → lookup (nat_eq name) (known ++ (id, sized) ∷ []) ≡ lookup (nat_eq name) known)
        → is_some (cond b (Some k.1) (lookup (nat_eq name) known)) ≡ true
        → cond b (Some k.1) (lookup (nat_eq name) (known ++ (id, sized) ∷ [])) ≡ cond b (Some k.1) (lookup (nat_eq name) known)
    by true rest h = refl
    by false rest h = rest h

known_still : (known : Known) (name id : ℕ) (sized : Component) → is_some (lookup (nat_eq name) known) ≡ true → lookup (nat_eq name) (known_with known id sized) ≡ lookup (nat_eq name) known
known_still known name id sized h = by (is_some (lookup (nat_eq id) known))
  where
    by : (b : Bool) → lookup (nat_eq name) (with_one known id sized b) ≡ lookup (nat_eq name) known
    by true = refl
    by false = found_still known name id sized h

pub held_known : (ws : List Width) (known : Known) (id : ℕ) (sized : Component) (choices : Choices) → AreChoices ws known choices → AreChoices ws (known_with known id sized) choices
held_known ws known id sized choices h = record {
  are_known = λ key number found. let is = h.are_known key number found in ap is_some (known_still known key.name id sized is) ∙ is;
  references = λ key number found.
      let same : part_at (known_with known id sized) key ≡ part_at known key
      = ap (λ (o : Option Component). named (map step_to key.steps.items) (component_or_none o)) (known_still known key.name id sized (h.are_known key number found)) in
      subst (λ (c : Component). IsPart ws choices.seen.items number c) (sym same) (h.references key number found);
  pairs = h.pairs;
}
