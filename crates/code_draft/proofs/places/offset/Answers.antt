use Rattle.std.proofs.Common.{◌*◌, ◌%◌, ◌^◌, ◌-◌, [], ◌∷◌, refl, arith, slice_index}
use Rattle.flat_code.specs.declared.instr.Op.TheVariants as op
use Rattle.code_draft.specs.Drafts.{Works}
use Rattle.code_draft.specs.Places.{on_slots, offset_word, Adds, Gives}
use Rattle.code_draft.proofs.Placing.{ok_so, on_both, works_as, code_as, gives_first, gives_next, constant_computes, mul_computes, add_computes, product_word, sum_word, adds_one, adds_then, out_first, out_second}
use Rattle.code_draft.proofs.places.offset.Goals as goal

pub returns-clause-gives : goal.returns-clause-gives
returns-clause-gives c = ok_so c.computed-3.result c.computed-3.ensures.works (λ k last is index rest.
    let l = c.args.level in
    let i = l.index.low in
    let r = c.args.rest in
    let a = c.args.draft.now in
    let b = c.computed.new.draft in
    let d = c.computed-2.new.draft in
    let e = c.computed-3.new.draft in
    let f = c.in_ok-inner.inner in
    let p = c.in_ok-product.product in
    let one : Works a b (on_slots op.Constant 0 0 0 l.inner) f = works_as a b _ _ f c.constant.ensures c.in_ok-inner.ensures.works is (constant_computes a l.inner) in
    let first = gives_first a b (on_slots op.Constant 0 0 0 l.inner) f (λ F. l.inner) one (λ words inputs F. refl) in
    let two : Works b d (on_slots op.Mul i f 0 (2 ^ 64 - 1)) p =
    works_as b d _ _ p c.on.ensures c.in_ok-product.ensures.works one.grows.is (mul_computes b i f (2 ^ 64 - 1) (one.grows.stays i index) one.written) in
    let second : Gives a d p (λ F. slice_index F i * l.inner % 2 ^ 64) =
    gives_next a b d (on_slots op.Mul i f 0 (2 ^ 64 - 1)) f p (λ F. l.inner) (λ F. slice_index F i * l.inner % 2 ^ 64) first two (λ words inputs F h. product_word (slice_index F i) (slice_index F f) l.inner h) in
    let three : Works d e (on_slots op.Add p r 0 (2 ^ 64 - 1)) k =
    works_as d e _ _ k c.on-2.ensures last two.grows.is (add_computes d p r (2 ^ 64 - 1) two.written (second.grows.stays r rest)) in
    gives_next a d e (on_slots op.Add p r 0 (2 ^ 64 - 1)) p k (λ F. slice_index F i * l.inner % 2 ^ 64) (offset_word l r) second three
    (λ words inputs F h. sum_word (slice_index F p) (slice_index F r) (slice_index F i * l.inner % 2 ^ 64) h))

pub returns-clause-adds : goal.returns-clause-adds
returns-clause-adds c = ok_so c.computed-3.result (on_both _ _ c.computed-3.result c.computed-3.ensures.place c.computed-3.ensures.code) (λ k last.
    let l = c.args.level in
    let i = l.index.low in
    let r = c.args.rest in
    let a = c.args.draft.now in
    let b = c.computed.new.draft in
    let d = c.computed-2.new.draft in
    let e = c.computed-3.new.draft in
    let f = c.in_ok-inner.inner in
    let p = c.in_ok-product.product in
    let at = c.in_ok-inner.ensures.place in
    let next = c.in_ok-product.ensures.place in
    let more = c.in_ok-inner.ensures.slots in
    let one : Adds a b [] = adds_one a b (on_slots op.Constant 0 0 0 l.inner) [] refl (λ j h. h) (code_as a b _ _ c.constant.ensures c.in_ok-inner.ensures.code) in
    let two : Adds b d (i ∷ f ∷ []) = adds_one b d (on_slots op.Mul i f 0 (2 ^ 64 - 1)) (i ∷ f ∷ []) refl (λ j h. h) (code_as b d _ _ c.on.ensures c.in_ok-product.ensures.code) in
    let three : Adds d e (p ∷ r ∷ []) = adds_one d e (on_slots op.Add p r 0 (2 ^ 64 - 1)) (p ∷ r ∷ []) refl (λ j h. h) (code_as d e _ _ c.on-2.ensures last.1) in
    adds_then a d e (i ∷ r ∷ []) (p ∷ r ∷ []) (i ∷ r ∷ [])
    (adds_then a b d [] (i ∷ f ∷ []) (i ∷ r ∷ []) one two (λ j lt h. Rattle.code_draft.proofs.Segmenting.none_among j h) (λ j lt h. out_first i f r a.slots j (omega (arith, at)) lt h)) three
    (λ j lt h. h) (λ j lt h. out_second p r i a.slots j (omega (arith, next, more)) lt h))
