use Rattle.std.proofs.Common.{refl, inl, inr, length, arith}
use Rattle.std.proofs.lemmas.Grind.{common_steps}
use Rattle.std.proofs.lemmas.Slice.Zip.{zip_turn, zip_end}
use Rattle.fir_types.specs.Equivalence.{AreSame, IsUnsigned, unsigned, signed, clocks, asyncs, a_uint, a_reset, a_sint}
use Rattle.fir_types.proofs.Cases.{of_unsigned, of_bundles, bundles_from, same_length, same_at, same_from_places, are_same_at, places_more, not_both}
use Rattle.fir_types.proofs.Runs.{answered, other_length, same_on, element_falls}
use Rattle.fir_types.proofs.equivalence.+equivalent.Goals as goal

pub equivalent-returns-in-Unsigned : goal.equivalent-returns-in-Unsigned
equivalent-returns-in-Unsigned t c =
    let u : IsUnsigned c.loop-one.one.now = elim c.in-Unsigned.is as (λ _. IsUnsigned c.loop-one.one.now) [ inl u ↦ a_uint u.0 u.1 | inr r ↦ a_reset r ] in
    answered c.args.left.now c.args.right.now c.loop-one.one.now c.loop-one.other.now c.loop-one.invariant.0
    (λ y. unsigned u (c.is_unsigned.ensures.0 y), λ e. c.is_unsigned.ensures.1 (of_unsigned u e))

pub equivalent-returns-in-Signed-matches : goal.equivalent-returns-in-Signed-matches
equivalent-returns-in-Signed-matches t c =
    answered c.args.left.now c.args.right.now c.loop-one.one.now c.loop-one.other.now c.loop-one.invariant.0
    (λ _. signed (a_sint c.in-Signed.field-0 c.in-Signed.is) (a_sint c.in-Signed-matches.field-0 c.in-Signed-matches.is), λ _. refl)

pub equivalent-returns-in-Clock-matches : goal.equivalent-returns-in-Clock-matches
equivalent-returns-in-Clock-matches t c =
    answered c.args.left.now c.args.right.now c.loop-one.one.now c.loop-one.other.now c.loop-one.invariant.0 (λ _. clocks c.in-Clock.is c.in-Clock-matches.is, λ _. refl)

pub equivalent-returns-in-AsyncReset-matches : goal.equivalent-returns-in-AsyncReset-matches
equivalent-returns-in-AsyncReset-matches t c =
    answered c.args.left.now c.args.right.now c.loop-one.one.now c.loop-one.other.now c.loop-one.invariant.0 (λ _. asyncs c.in-AsyncReset.is c.in-AsyncReset-matches.is, λ _. refl)

pub equivalent-returns-in-Bundle-shape : goal.equivalent-returns-in-Bundle-shape
equivalent-returns-in-Bundle-shape t c = answered c.args.left.now c.args.right.now c.loop-one.one.now c.loop-one.other.now c.loop-one.invariant.0 (
  λ y. bundles_from c.as_slice.result.now c.as_slice-in-Bundle-shape.result.now c.in-Bundle.is c.in-Bundle-shape.is c.as_slice.ensures c.as_slice-in-Bundle-shape.ensures (c.same_fields.ensures.0 y),
  λ e. c.same_fields.ensures.1 (of_bundles c.as_slice.result.now c.as_slice-in-Bundle-shape.result.now c.in-Bundle.is c.in-Bundle-shape.is c.as_slice.ensures c.as_slice-in-Bundle-shape.ensures e),
)

pub equivalent-returns-then-length-other_length : goal.equivalent-returns-then-length-other_length
equivalent-returns-then-length-other_length t c = (
  λ y. absurd cc,
  λ e. absurd (other_length c.args.left.now c.args.right.now c.loop-one.one.now c.loop-one.other.now _ _ _ _ c.in-Vector.is c.in-Vector-shape.is c.if-length-other_length.true c.loop-one.invariant.0 e),
)

pub equivalent-loop-one-preserved : goal.equivalent-loop-one-preserved
equivalent-loop-one-preserved t c =
    let one = c.loop-one.one.now in
    rw (c.get-one.ensures, c.get-other.ensures) (
      same_on c.args.left.now c.args.right.now one c.loop-one.other.now _ _ _ _ c.in-Vector.is c.in-Vector-shape.is c.if-length-other_length.false c.loop-one.invariant.0,
      element_falls one _ _ _ c.in-Vector.is c.loop-one.invariant.1,
    )

pub same_fields-returns-then-fields-others : goal.same_fields-returns-then-fields-others
same_fields-returns-then-fields-others t c = (λ y. absurd cc, λ s. absurd (c.if-fields-others.true (same_length s)))

pub same_fields-returns-then-not-same_field : goal.same_fields-returns-then-not-same_field
same_fields-returns-then-not-same_field t c =
    let z = zip_turn c.args.fields.now c.args.others.now c.loop-field.yielded c.into_iter-field-iterator.result c.loop-field.field-iterator c.next.new.self c.next.result
    (cc) (cc) c.loop-field.yielded_by (c.in-Some.field, c.in-Some.other) c.in-Some.is c.next.ensures.steps in (
      λ y. absurd cc,
      λ s.
          let same = same_at s (length c.loop-field.yielded) c.in-Some.field.now z.0 in
          let there : AreSame c.in-Some.field.now c.in-Some.other.now =
          are_same_at (z.2 c.in-Some.field.now) (z.3 c.in-Some.field.now) same in
          absurd (not_both c.if-not-same_field.true (c.same_field.ensures.1 there)),
    )

pub same_fields-loop-field-preserved : goal.same_fields-loop-field-preserved
same_fields-loop-field-preserved t c =
    let z = zip_turn c.args.fields.now c.args.others.now c.loop-field.yielded c.into_iter-field-iterator.result c.loop-field.field-iterator c.next.new.self c.next.result
    (cc) (cc) c.loop-field.yielded_by (c.in-Some.field, c.in-Some.other) c.in-Some.is c.next.ensures.steps in
    places_more c.args.fields.now c.args.others.now (length c.loop-field.yielded) _ c.in-Some.field.now c.in-Some.other.now z.2 z.3
    (c.same_field.ensures.0 c.if-not-same_field.false) c.loop-field.invariant (grind (arith, common_steps))

pub same_fields-returns : goal.same_fields-returns
same_fields-returns t c =
    let z = zip_end c.args.fields.now c.args.others.now c.loop-field.yielded c.into_iter-field-iterator.result c.loop-field.field-iterator c.next.new.self c.next.result
    (cc) (cc) c.loop-field.yielded_by c.in-None.is c.next.ensures.steps in
    (λ y. same_from_places c.args.fields.now c.args.others.now c.if-fields-others.false (λ k d h. c.loop-field.invariant k d (omega arith)), λ s. refl)
