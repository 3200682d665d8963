-- Guards.
use Rattle.std.proofs.Common.{◌≡◌, ℕ, ◌+◌, ◌<◌, ◌≤◌, Bool, true, false, List, [], ◌∷◌, ◌++◌, map, take, length, get_or, refl, sym, ap, ap₂, ◌∙◌, subst, arith, nat_lt, ◌&&◌, not, if◌then◌else◌, Some, None, Option, option_and_then, append-nil, append_assoc, length-append, true≢false}
use Rattle.std.specs.Prelude.{reverse, IsSome}
use Rattle.std.specs.List.{list_all}
use Rattle.std.specs.Option.{option_to_list}
use Rattle.std.proofs.Math.ListN.{drop_of_length-le, take-append-drop}
use Rattle.std.proofs.lemmas.Bool.Decides.{nat_tests}
use Rattle.std.proofs.lemmas.Grind.{flat_map-append}
use Rattle.std.proofs.lemmas.List.{take_more, map-append}
use Rattle.std.proofs.lemmas.List.Folds.{list_all-append}
use Rattle.bit_words.specs.declared.value.Kind.TheVariants.{Unsigned}
use Rattle.bit_words.specs.declared.value.Value.{Value}
use Rattle.prim_ops.specs.Values.{is_one}
use Rattle.ground_net.specs.declared.ground.Ground.{Ground}
use Rattle.ground_net.specs.declared.ground.Ground.TheVariants.{Mux}
use Rattle.ground_net.specs.Grounds.{Instant, value, mentions, joined}
use Rattle.ground_net.specs.Statements.{all_hold}
use Rattle.ground_net.proofs.Layers.{value-Mux, mentions-Mux}
use Rattle.ground_net.specs.Shapes.{Shape, Table, shaped, shape as shape_in, same_shape, is_unsigned, shape_of_choice, all_of}
use Rattle.expand_whens.proofs.Layers.{shape-Mux, shapes_of}
use Rattle.expand_whens.specs.declared.guard.Asked.{Asked}
use Rattle.expand_whens.specs.declared.guard.Part.{Part}
use Rattle.ground_net.specs.StatementShapes.{is_condition, some_unsigned}
use Rattle.expand_whens.specs.Ways.{guard_holds, guard_mentions, guard_fits, meets, is_met, asked_mentions, crossed, crossed_mentions, none_hold, part_holds, part_mentions, part_fits, IsGuard, IsPart, IsBit}
use Rattle.expand_whens.proofs.Members.{same, same_of, same_through, same_append, swapped}
use Rattle.expand_whens.proofs.Tests.{left_true, right_true}

and_true : (b : Bool) → b ≡ (b && true)
and_true true = refl
and_true false = refl

and_assoc : (a b c : Bool) → ((a && b) && c) ≡ (a && (b && c))
and_assoc true b c = refl
and_assoc false b c = refl

and_swap : (a b c : Bool) → ((a && (b && true)) && c) ≡ ((a && c) && b)
and_swap true true true = refl
and_swap true true false = refl
and_swap true false true = refl
and_swap true false false = refl
and_swap false b c = refl

and_last : (a b c : Bool) → (a && (c && (b && true))) ≡ ((a && c) && b)
and_last true true true = refl
and_last true true false = refl
and_last true false true = refl
and_last true false false = refl
and_last false b c = refl

and_first : (b a c : Bool) → (b && (a && c)) ≡ (a && (b && c))
and_first true true c = refl
and_first true false c = refl
and_first false true c = refl
and_first false false c = refl

pub all_true : (a b : Bool) → a ≡ true → b ≡ true → (a && b) ≡ true
all_true true b p q = q
all_true false b p q = p

lt_test : (a b : ℕ) → a < b → nat_lt a b ≡ true
lt_test a b h = grind (arith, nat_tests)

ge_test : (a b : ℕ) → b ≤ a → nat_lt a b ≡ false
ge_test a b h = grind (arith, nat_tests)

joined-push : (gs : List Ground) (g : Ground) → joined (map mentions (gs ++ g ∷ [])) ≡ joined (map mentions gs) ++ mentions g
joined-push gs g = ap joined (map-append mentions gs (g ∷ [])) ∙ (flat_map-append (λ l. l) (map mentions gs) (mentions g ∷ []) ∙ ap (λ xs. joined (map mentions gs) ++ xs) (append-nil (mentions g)))

none_some : {A : Type 0} {x : A} → None ≡ Some x → ⊥
none_some e = cc

-- shapes of choices

-- a condition and a value before the items of a choice
pub mux_more : (table : Table) (item source : Ground) (rest : List Ground) (s : Shape) → is_condition table item ≡ true → shape_in source table ≡ Some s → same_shape s s ≡ true
    → shape_in (Mux rest) table ≡ Some s → shape_in (Mux (item ∷ source ∷ rest)) table ≡ Some s
mux_more table item source rest s c v r e = conditioned (shape_in item table) refl c
  where
    chosen_of : (x : Option (List Shape)) → option_and_then shape_of_choice x ≡ Some s → (i : Shape) → is_unsigned i ≡ true
        → option_and_then shape_of_choice (option_and_then (λ t. option_and_then (λ more. Some (t ∷ more)) (option_and_then (λ u. option_and_then (λ more. Some (u ∷ more)) x) (Some s))) (Some i)) ≡ Some s
    chosen_of None h i u = absurd (none_some h)
    chosen_of (Some ss) h i u = ap (option_and_then (λ t. if is_unsigned i && same_shape s t then Some t else None)) h
        ∙ ap (λ b. if b then Some s else None) (all_true _ _ u r)

    conditioned : (o : Option Shape) → shape_in item table ≡ o → some_unsigned o ≡ true → shape_in (Mux (item ∷ source ∷ rest)) table ≡ Some s
    conditioned None q u = absurd (true≢false (sym u))
    conditioned (Some i) q u = shape-Mux (item ∷ source ∷ rest) table
        ∙ (ap (λ o. option_and_then shape_of_choice (option_and_then (λ t. option_and_then (λ more. Some (t ∷ more)) (option_and_then (λ w. option_and_then (λ more. Some (w ∷ more)) (all_of (shapes_of rest table))) (shape_in source table))) o)) q
        ∙ (ap (λ o. option_and_then shape_of_choice (option_and_then (λ t. option_and_then (λ more. Some (t ∷ more)) (option_and_then (λ w. option_and_then (λ more. Some (w ∷ more)) (all_of (shapes_of rest table))) o)) (Some i))) v
        ∙ chosen_of (all_of (shapes_of rest table)) (sym (shape-Mux rest table) ∙ e) i u))

-- one item alone
pub mux_one : (table : Table) (item : Ground) (s : Shape) → shape_in item table ≡ Some s → shape_in (Mux (item ∷ [])) table ≡ Some s
mux_one table item s e = shape-Mux (item ∷ []) table ∙ ap (λ o. option_and_then shape_of_choice (option_and_then (λ t. option_and_then (λ more. Some (t ∷ more)) (Some [])) o)) e

-- that no condition holds, of none
pub refusing_none : (item : Ground) → ((instant : Instant) → is_one (value item instant) ≡ true) → mentions item ≡ [] → ((table : Table) → shape_in item table ≡ Some (shaped Unsigned 1))
    → IsBit (λ instant. none_hold instant []) (joined (map mentions [])) (λ table. list_all (is_condition table) []) (Mux (reverse (item ∷ [])))
refusing_none item h m s = record {
  holds = λ instant. ap is_one (value-Mux (item ∷ []) instant) ∙ h instant;
  mentions = same_of (mentions-Mux (item ∷ []) ∙ (append-nil (mentions item) ∙ m));
  shape = λ table a. mux_one table item (shaped Unsigned 1) (s table);
}

pub refusing_nothing : (item : Ground) (refused : List Ground) → refused ≡ [] → ((instant : Instant) → is_one (value item instant) ≡ true) → mentions item ≡ [] → ((table : Table) → shape_in item table ≡ Some (shaped Unsigned 1))
    → IsBit (λ instant. none_hold instant refused) (joined (map mentions refused)) (λ table. list_all (is_condition table) refused) item
refusing_nothing item refused e h m s = record {
  holds = λ instant. h instant ∙ ap (none_hold instant) (sym e);
  mentions = same_of (m ∙ ap (λ xs. joined (map mentions xs)) (sym e));
  shape = λ table a. s table;
}

-- a condition that is not to hold, before the others
pub refusing_more : (done items : List Ground) (condition zero_bit : Ground) (after : List Ground)
    → ((instant : Instant) → is_one (value zero_bit instant) ≡ false) → mentions zero_bit ≡ [] → ((table : Table) → shape_in zero_bit table ≡ Some (shaped Unsigned 1))
    → reverse after ≡ condition ∷ zero_bit ∷ reverse items
    → IsBit (λ instant. none_hold instant done) (joined (map mentions done)) (λ table. list_all (is_condition table) done) (Mux (reverse items))
    → IsBit (λ instant. none_hold instant (condition ∷ done)) (joined (map mentions (condition ∷ done))) (λ table. list_all (is_condition table) (condition ∷ done)) (Mux (reverse after))
refusing_more done items condition zero_bit after z m s e g =
    subst (λ xs. IsBit (λ instant. none_hold instant (condition ∷ done)) (joined (map mentions (condition ∷ done))) (λ table. list_all (is_condition table) (condition ∷ done)) (Mux xs)) (sym e) (record {
      holds = λ instant. ap is_one (value-Mux (condition ∷ zero_bit ∷ reverse items) instant)
          ∙ (ap (λ v. is_one (if is_one (value condition instant) then value zero_bit instant else v)) (sym (value-Mux (reverse items) instant))
          ∙ chosen_one (is_one (value condition instant)) (value zero_bit instant) (value (Mux (reverse items)) instant) _ (z instant) (g.holds instant));
      mentions = same_through (same_of (mentions-Mux (condition ∷ zero_bit ∷ reverse items)
          ∙ (ap (λ xs. mentions condition ++ (xs ++ joined (map mentions (reverse items)))) m ∙ ap (λ xs. mentions condition ++ xs) (sym (mentions-Mux (reverse items))))))
          (same_append (same (mentions condition)) g.mentions);
      shape = λ table a. mux_more table condition zero_bit (reverse items) (shaped Unsigned 1) (left_true (is_condition table condition) _ a) (s table) refl (g.shape table (right_true (is_condition table condition) _ a));
    })
  where
    chosen_one : (b : Bool) (u v : Value) (n : Bool) → is_one u ≡ false → is_one v ≡ n → is_one (if b then u else v) ≡ (not b && n)
    chosen_one true u v n hu hv = hu
    chosen_one false u v n hu hv = hv

-- a choice of a bit and 0
module _ (condition bit zero_bit : Ground) (z : (instant : Instant) → is_one (value zero_bit instant) ≡ false) (m : mentions zero_bit ≡ []) (s : (table : Table) → shape_in zero_bit table ≡ Some (shaped Unsigned 1)) where
  pub choice_value : (instant : Instant) → is_one (value (Mux (condition ∷ bit ∷ zero_bit ∷ [])) instant) ≡ (is_one (value condition instant) && is_one (value bit instant))
  choice_value instant = ap is_one (value-Mux (condition ∷ bit ∷ zero_bit ∷ []) instant) ∙ inside (is_one (value condition instant))
    where
      inside : (b : Bool) → is_one (if b then value bit instant else value zero_bit instant) ≡ (b && is_one (value bit instant))
      inside true = refl
      inside false = z instant

  pub choice_mentions : mentions (Mux (condition ∷ bit ∷ zero_bit ∷ [])) ≡ mentions condition ++ mentions bit
  choice_mentions = mentions-Mux (condition ∷ bit ∷ zero_bit ∷ []) ∙ (ap (λ xs. mentions condition ++ (mentions bit ++ (xs ++ []))) m ∙ ap (λ xs. mentions condition ++ xs) (append-nil (mentions bit)))

  pub choice_shape : (table : Table) → is_condition table condition ≡ true → shape_in bit table ≡ Some (shaped Unsigned 1) → shape_in (Mux (condition ∷ bit ∷ zero_bit ∷ [])) table ≡ Some (shaped Unsigned 1)
  choice_shape table c b = mux_more table condition bit (zero_bit ∷ []) (shaped Unsigned 1) c b refl (mux_one table zero_bit (shaped Unsigned 1) (s table))

-- that no condition holds, and conditions that are to hold, of none
pub closing_none : (refused : List Ground) (bit : Ground) → IsBit (λ instant. none_hold instant refused) (joined (map mentions refused)) (λ table. list_all (is_condition table) refused) bit
    → IsBit (λ instant. none_hold instant refused && all_hold instant []) (joined (map mentions refused) ++ joined (map mentions [])) (λ table. list_all (is_condition table) refused && list_all (is_condition table) []) bit
closing_none refused bit g = record {
  holds = λ instant. g.holds instant ∙ and_true (none_hold instant refused);
  mentions = same_through g.mentions (same_of (sym (append-nil (joined (map mentions refused)))));
  shape = λ table a. g.shape table (left_true _ _ a);
}

-- one more of them
pub closing_more : (refused done : List Ground) (condition bit choice : Ground)
    → ((instant : Instant) → is_one (value choice instant) ≡ (is_one (value condition instant) && is_one (value bit instant))) → mentions choice ≡ mentions condition ++ mentions bit
    → ((table : Table) → is_condition table condition ≡ true → shape_in bit table ≡ Some (shaped Unsigned 1) → shape_in choice table ≡ Some (shaped Unsigned 1))
    → IsBit (λ instant. none_hold instant refused && all_hold instant done) (joined (map mentions refused) ++ joined (map mentions done)) (λ table. list_all (is_condition table) refused && list_all (is_condition table) done) bit
    → IsBit (λ instant. none_hold instant refused && all_hold instant (condition ∷ done)) (joined (map mentions refused) ++ joined (map mentions (condition ∷ done)))
    (λ table. list_all (is_condition table) refused && list_all (is_condition table) (condition ∷ done)) choice
closing_more refused done condition bit choice v m s g = record {
  holds = λ instant. v instant ∙ (ap (λ b. is_one (value condition instant) && b) (g.holds instant) ∙ and_first (is_one (value condition instant)) (none_hold instant refused) (all_hold instant done));
  mentions = same_through (same_of m) (same_through (same_append (same (mentions condition)) g.mentions)
      (same_through (same_of (sym (append_assoc (mentions condition) (joined (map mentions refused)) (joined (map mentions done)))))
      (same_through (same_append (swapped (mentions condition) (joined (map mentions refused))) (same (joined (map mentions done))))
      (same_of (append_assoc (joined (map mentions refused)) (mentions condition) (joined (map mentions done)))))));
  shape = λ table a.
      let here : (is_condition table condition && (list_all (is_condition table) refused && list_all (is_condition table) done)) ≡ true =
      and_first (is_condition table condition) (list_all (is_condition table) refused) (list_all (is_condition table) done) ∙ a in
      s table (left_true (is_condition table condition) _ here) (g.shape table (right_true (is_condition table condition) _ here));
}

-- all of them
pub closing_all : (part : Part) (left done : List Ground) (bit : Ground) → part.accepted.items ≡ left ++ done → length left ≡ 0
    → IsBit (λ instant. none_hold instant part.refused.items && all_hold instant done) (joined (map mentions part.refused.items) ++ joined (map mentions done))
    (λ table. list_all (is_condition table) part.refused.items && list_all (is_condition table) done) bit
    → IsBit (λ instant. part_holds instant part) (part_mentions part) (λ table. part_fits table part) bit
closing_all part left done bit e n g = subst (λ xs. IsBit (λ instant. none_hold instant part.refused.items && all_hold instant xs) (joined (map mentions part.refused.items) ++ joined (map mentions xs))
    (λ table. list_all (is_condition table) part.refused.items && list_all (is_condition table) xs) bit) (sym (none_left left e n)) g
  where
    none_left : (left : List Ground) → part.accepted.items ≡ left ++ done → length left ≡ 0 → part.accepted.items ≡ done
    none_left [] e n = e
    none_left (x ∷ xs) e n = absurd (omega (arith, n))

-- a bit is a guard
pub bit_guards : (part : Part) (bit : Ground) → IsBit (λ instant. part_holds instant part) (part_mentions part) (λ table. part_fits table part) bit → IsGuard (λ instant. part_holds instant part) (part_mentions part) (Some bit)
bit_guards part bit g = record { holds = g.holds; mentions = g.mentions }

pub bit_fits : (part : Part) (bit : Ground) → IsBit (λ instant. part_holds instant part) (part_mentions part) (λ table. part_fits table part) bit → (table : Table) → part_fits table part ≡ true → is_condition table bit ≡ true
bit_fits part bit g table a = ap some_unsigned (g.shape table a)

-- no condition
pub closed_none : (part : Part) → part.refused.items ≡ [] → part.accepted.items ≡ [] → IsGuard (λ instant. part_holds instant part) (part_mentions part) None
closed_none part r a = record {
  holds = λ instant. ap₂ (λ xs ys. true) r a ∙ sym (ap₂ (λ xs ys. none_hold instant xs && all_hold instant ys) r a);
  mentions = same_of (sym (ap₂ (λ xs ys. joined (map mentions xs) ++ joined (map mentions ys)) r a));
}

pub empty_list : {A : Type 0} (xs : List A) → length xs ≡ 0 → xs ≡ []
empty_list [] n = refl
empty_list (x ∷ xs) n = absurd (omega (arith, n))

-- one condition
only_one : (all left : List Ground) (o : Option Ground) → all ≡ left ++ option_to_list o → length all ≡ 1 → IsSome o
    → (g : Ground) × (o ≡ Some g) × (all ≡ g ∷ [])
only_one all [] (Some g) e n v = (g, refl, e)
only_one all (x ∷ xs) (Some g) e n v = absurd (omega (arith, n, ap length e, length-append xs (g ∷ [])))
only_one all left None e n v = absurd (true≢false (sym v))

pub closed_one : (part : Part) (left : List Ground) (o : Option Ground) → part.refused.items ≡ [] → part.accepted.items ≡ left ++ option_to_list o → length part.accepted.items ≡ 1
    → IsSome o
    → IsGuard (λ instant. part_holds instant part) (part_mentions part) o × ((table : Table) → part_fits table part ≡ true → guard_fits table o ≡ true)
closed_one part left o r e n v = told (only_one part.accepted.items left o e n v)
  where
    told : (g : Ground) × (o ≡ Some g) × (part.accepted.items ≡ g ∷ [])
        → IsGuard (λ instant. part_holds instant part) (part_mentions part) o × ((table : Table) → part_fits table part ≡ true → guard_fits table o ≡ true)
    told (g, is, one) = (
      record {
        holds = λ instant. ap (guard_holds instant) is ∙ (and_true (is_one (value g instant)) ∙ sym (ap₂ (λ xs ys. none_hold instant xs && all_hold instant ys) r one));
        mentions = same_of (ap guard_mentions is ∙ (sym (append-nil (mentions g)) ∙ sym (ap₂ (λ xs ys. joined (map mentions xs) ++ joined (map mentions ys)) r one)));
      },
      λ table a. ap (guard_fits table) is ∙ left_true (is_condition table g) _ (sym (ap₂ (λ xs ys. list_all (is_condition table) xs && list_all (is_condition table) ys) r one) ∙ a),
    )

-- conditions that are taken from the end
pub taken_from_end : {A : Type 0} (all left now done : List A) (one : A) → left ≡ now ++ one ∷ [] → all ≡ left ++ done → all ≡ now ++ (one ∷ done)
taken_from_end all left now done one e a = a ∙ (ap (λ xs. xs ++ done) e ∙ append_assoc now (one ∷ []) done)

-- a condition more that is not to hold
pub part_refused : (old new : Part) (condition : Ground) → new.refused.items ≡ old.refused.items ++ condition ∷ [] → new.accepted.items ≡ old.accepted.items
    → IsPart (λ instant. part_holds instant old && meets instant false condition) (part_mentions old ++ mentions condition) new
part_refused old new condition e r = record {
  holds = λ instant. ap₂ (λ xs ys. none_hold instant xs && all_hold instant ys) e r
      ∙ (ap (λ b. b && all_hold instant old.accepted.items) (list_all-append (λ g. not (is_one (value g instant))) old.refused.items (condition ∷ []))
      ∙ and_swap (none_hold instant old.refused.items) (not (is_one (value condition instant))) (all_hold instant old.accepted.items));
  mentions = same_through (same_of (ap₂ (λ xs ys. joined (map mentions xs) ++ joined (map mentions ys)) e r
      ∙ (ap (λ xs. xs ++ joined (map mentions old.accepted.items)) (joined-push old.refused.items condition)
      ∙ append_assoc (joined (map mentions old.refused.items)) (mentions condition) (joined (map mentions old.accepted.items)))))
      (same_through (same_append (same (joined (map mentions old.refused.items))) (swapped (mentions condition) (joined (map mentions old.accepted.items))))
      (same_of (sym (append_assoc (joined (map mentions old.refused.items)) (joined (map mentions old.accepted.items)) (mentions condition)))));
}

-- a condition more that is to hold
pub part_accepted : (old new : Part) (condition : Ground) → new.refused.items ≡ old.refused.items → new.accepted.items ≡ old.accepted.items ++ condition ∷ []
    → IsPart (λ instant. part_holds instant old && meets instant true condition) (part_mentions old ++ mentions condition) new
part_accepted old new condition r e = record {
  holds = λ instant. ap₂ (λ xs ys. none_hold instant xs && all_hold instant ys) r e
      ∙ (ap (λ b. none_hold instant old.refused.items && b) (list_all-append (λ g. is_one (value g instant)) old.accepted.items (condition ∷ []))
      ∙ and_last (none_hold instant old.refused.items) (is_one (value condition instant)) (all_hold instant old.accepted.items));
  mentions = same_of (ap₂ (λ xs ys. joined (map mentions xs) ++ joined (map mentions ys)) r e
      ∙ (ap (λ xs. joined (map mentions old.refused.items) ++ xs) (joined-push old.accepted.items condition)
      ∙ sym (append_assoc (joined (map mentions old.refused.items)) (joined (map mentions old.accepted.items)) (mentions condition))));
}

pub refused_fits : (table : Table) (old new : Part) (condition : Ground) → new.refused.items ≡ old.refused.items ++ condition ∷ [] → new.accepted.items ≡ old.accepted.items
    → part_fits table old ≡ true → is_condition table condition ≡ true → part_fits table new ≡ true
refused_fits table old new condition e r a c = ap₂ (λ xs ys. list_all (is_condition table) xs && list_all (is_condition table) ys) e r
    ∙ (ap (λ b. b && list_all (is_condition table) old.accepted.items) (list_all-append (is_condition table) old.refused.items (condition ∷ []))
    ∙ (and_swap (list_all (is_condition table) old.refused.items) (is_condition table condition) (list_all (is_condition table) old.accepted.items) ∙ all_true _ _ a c))

pub accepted_fits : (table : Table) (old new : Part) (condition : Ground) → new.refused.items ≡ old.refused.items → new.accepted.items ≡ old.accepted.items ++ condition ∷ []
    → part_fits table old ≡ true → is_condition table condition ≡ true → part_fits table new ≡ true
accepted_fits table old new condition r e a c = ap₂ (λ xs ys. list_all (is_condition table) xs && list_all (is_condition table) ys) r e
    ∙ (ap (λ b. list_all (is_condition table) old.refused.items && b) (list_all-append (is_condition table) old.accepted.items (condition ∷ []))
    ∙ (and_last (list_all (is_condition table) old.refused.items) (is_condition table condition) (list_all (is_condition table) old.accepted.items) ∙ all_true _ _ a c))

-- what is asked of the leaf, and what isn't
pub asked_yes : (leaf : ℕ) (part next : Part) (one : Asked) → leaf < one.first
    → IsPart (λ instant. part_holds instant part && meets instant one.holds one.condition) (part_mentions part ++ mentions one.condition) next
    → IsPart (λ instant. part_holds instant part && is_met instant leaf one) (part_mentions part ++ asked_mentions leaf one) next
asked_yes leaf part next one below h =
    subst (λ b. IsPart (λ instant. part_holds instant part && (if b then meets instant one.holds one.condition else true)) (part_mentions part ++ (if b then mentions one.condition else [])) next)
    (sym (lt_test leaf one.first below)) h

pub asked_no : (leaf : ℕ) (part : Part) (one : Asked) → one.first ≤ leaf
    → IsPart (λ instant. part_holds instant part && is_met instant leaf one) (part_mentions part ++ asked_mentions leaf one) part
asked_no leaf part one above =
    subst (λ b. IsPart (λ instant. part_holds instant part && (if b then meets instant one.holds one.condition else true)) (part_mentions part ++ (if b then mentions one.condition else [])) part)
    (sym (ge_test leaf one.first above)) (record { holds = λ instant. and_true (part_holds instant part); mentions = same_of (sym (append-nil (part_mentions part))) })

-- a guard with one thing more
pub part_more : (when more : Instant → Bool) (leaves others : List ℕ) (part next : Part) → IsPart when leaves part
    → IsPart (λ instant. part_holds instant part && more instant) (part_mentions part ++ others) next → IsPart (λ instant. when instant && more instant) (leaves ++ others) next
part_more when more leaves others part next g n = record {
  holds = λ instant. n.holds instant ∙ ap (λ b. b && more instant) (g.holds instant);
  mentions = same_through n.mentions (same_append g.mentions (same others));
}

-- the guard of what a part holds
pub guard_told : (when : Instant → Bool) (leaves : List ℕ) (part : Part) (guard : Option Ground) → IsPart when leaves part
    → IsGuard (λ instant. part_holds instant part) (part_mentions part) guard → IsGuard when leaves guard
guard_told when leaves part guard p g = record {
  holds = λ instant. g.holds instant ∙ p.holds instant;
  mentions = same_through g.mentions p.mentions;
}

pub crossed_push : (instant : Instant) (leaf : ℕ) (asked : List Asked) (one : Asked) → crossed instant leaf (asked ++ one ∷ []) ≡ (crossed instant leaf asked && is_met instant leaf one)
crossed_push instant leaf asked one = list_all-append (is_met instant leaf) asked (one ∷ []) ∙ ap (λ b. crossed instant leaf asked && b) (sym (and_true (is_met instant leaf one)))

pub crossed_mentions_push : (leaf : ℕ) (asked : List Asked) (one : Asked) → crossed_mentions leaf (asked ++ one ∷ []) ≡ crossed_mentions leaf asked ++ asked_mentions leaf one
crossed_mentions_push leaf asked one = flat_map-append (asked_mentions leaf) asked (one ∷ []) ∙ ap (λ xs. crossed_mentions leaf asked ++ xs) (append-nil (asked_mentions leaf one))

pub asked_more : (leaf : ℕ) (part next : Part) (asked : List Asked) (k : ℕ) (one : Asked) → k < length asked → one ≡ get_or asked k one
    → IsPart (λ instant. crossed instant leaf (take k asked)) (crossed_mentions leaf (take k asked)) part
    → IsPart (λ instant. part_holds instant part && is_met instant leaf one) (part_mentions part ++ asked_mentions leaf one) next
    → IsPart (λ instant. crossed instant leaf (take (k + 1) asked)) (crossed_mentions leaf (take (k + 1) asked)) next
asked_more leaf part next asked k one below is g n =
    let grown : take (k + 1) asked ≡ take k asked ++ one ∷ [] = take_more asked k one below ∙ ap (λ x. take k asked ++ x ∷ []) (sym is) in
    let both = part_more (λ instant. crossed instant leaf (take k asked)) (λ instant. is_met instant leaf one) (crossed_mentions leaf (take k asked)) (asked_mentions leaf one) part next g n in
    let pushed : IsPart (λ instant. crossed instant leaf (take k asked ++ one ∷ [])) (crossed_mentions leaf (take k asked ++ one ∷ [])) next = record {
      holds = λ instant. both.holds instant ∙ sym (crossed_push instant leaf (take k asked) one);
      mentions = same_through both.mentions (same_of (sym (crossed_mentions_push leaf (take k asked) one)));
    } in
    subst (λ xs. IsPart (λ instant. crossed instant leaf xs) (crossed_mentions leaf xs) next) (sym grown) pushed

-- a list's test, one item longer
pub tests_more : {A : Type 0} (test : A → Bool) (xs : List A) (k : ℕ) (x : A) → k < length xs → x ≡ get_or xs k x → list_all test (take (k + 1) xs) ≡ true
    → (list_all test (take k xs) ≡ true) × (test x ≡ true)
tests_more test xs k x below is a =
    let grown : take (k + 1) xs ≡ take k xs ++ x ∷ [] = take_more xs k x below ∙ ap (λ y. take k xs ++ y ∷ []) (sym is) in
    let both : (list_all test (take k xs) && (test x && true)) ≡ true = sym (list_all-append test (take k xs) (x ∷ [])) ∙ (ap (list_all test) (sym grown) ∙ a) in
    (left_true _ _ both, left_true (test x) true (right_true (list_all test (take k xs)) _ both))

pub all_taken : {A : Type 0} (xs : List A) (k : ℕ) → length xs ≤ k → take k xs ≡ xs
all_taken xs k h = sym (append-nil (take k xs)) ∙ (ap (λ d. take k xs ++ d) (sym (drop_of_length-le xs h)) ∙ take-append-drop k xs)

-- the guard before any condition of the connect's own
pub conditions_none : (leaf : ℕ) (asked : List Asked) (k : ℕ) (part : Part) → length asked ≤ k
    → IsPart (λ instant. crossed instant leaf (take k asked)) (crossed_mentions leaf (take k asked)) part
    → IsPart (λ instant. crossed instant leaf asked && all_hold instant []) (crossed_mentions leaf asked ++ joined (map mentions [])) part
conditions_none leaf asked k part h p =
    let told = subst (λ xs. IsPart (λ instant. crossed instant leaf xs) (crossed_mentions leaf xs) part) (all_taken asked k h) p in record {
      holds = λ instant. told.holds instant ∙ and_true (crossed instant leaf asked);
      mentions = same_through told.mentions (same_of (sym (append-nil (crossed_mentions leaf asked))));
    }

-- and behind them all
pub conditions_all : (leaf : ℕ) (asked : List Asked) (conditions : List Ground) (k : ℕ) (part : Part) (guard : Option Ground) → length conditions ≤ k
    → IsPart (λ instant. crossed instant leaf asked && all_hold instant (take k conditions)) (crossed_mentions leaf asked ++ joined (map mentions (take k conditions))) part
    → IsGuard (λ instant. part_holds instant part) (part_mentions part) guard
    → IsGuard (λ instant. crossed instant leaf asked && all_hold instant conditions) (crossed_mentions leaf asked ++ joined (map mentions conditions)) guard
conditions_all leaf asked conditions k part guard h p g =
    guard_told _ _ part guard (subst (λ xs. IsPart (λ instant. crossed instant leaf asked && all_hold instant xs) (crossed_mentions leaf asked ++ joined (map mentions xs)) part) (all_taken conditions k h) p) g

pub condition_more : (when : Instant → Bool) (leaves : List ℕ) (part next : Part) (conditions : List Ground) (k : ℕ) (one : Ground) → k < length conditions → one ≡ get_or conditions k one
    → IsPart (λ instant. when instant && all_hold instant (take k conditions)) (leaves ++ joined (map mentions (take k conditions))) part
    → IsPart (λ instant. part_holds instant part && meets instant true one) (part_mentions part ++ mentions one) next
    → IsPart (λ instant. when instant && all_hold instant (take (k + 1) conditions)) (leaves ++ joined (map mentions (take (k + 1) conditions))) next
condition_more when leaves part next conditions k one below is g n =
    let grown : take (k + 1) conditions ≡ take k conditions ++ one ∷ [] = take_more conditions k one below ∙ ap (λ x. take k conditions ++ x ∷ []) (sym is) in
    let both = part_more (λ instant. when instant && all_hold instant (take k conditions)) (λ instant. meets instant true one) (leaves ++ joined (map mentions (take k conditions))) (mentions one) part next g n in
    let pushed : IsPart (λ instant. when instant && all_hold instant (take k conditions ++ one ∷ [])) (leaves ++ joined (map mentions (take k conditions ++ one ∷ []))) next = record {
      holds = λ instant. both.holds instant ∙ (regroup (when instant) (all_hold instant (take k conditions)) (is_one (value one instant))
          ∙ ap (λ b. when instant && b) (sym (list_all-append (λ g. is_one (value g instant)) (take k conditions) (one ∷ []))));
      mentions = same_through both.mentions (same_of (append_assoc leaves (joined (map mentions (take k conditions))) (mentions one)
          ∙ ap (λ xs. leaves ++ xs) (sym (joined-push (take k conditions) one))));
    } in
    subst (λ xs. IsPart (λ instant. when instant && all_hold instant xs) (leaves ++ joined (map mentions xs)) next) (sym grown) pushed
  where
    regroup : (a b c : Bool) → ((a && b) && c) ≡ (a && (b && (c && true)))
    regroup true true true = refl
    regroup true true false = refl
    regroup true false c = refl
    regroup false b c = refl
