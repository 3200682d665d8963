use Rattle.std.proofs.Common.{◌^◌, ◌-◌, [], ◌∷◌, nat_lt, if◌then◌else◌, refl, ap, arith, slice_index}
use Rattle.flat_code.specs.declared.instr.Op.TheVariants as op
use Rattle.code_draft.specs.Drafts.{Works}
use Rattle.code_draft.proofs.Segmenting.{none_among}
use Rattle.code_draft.specs.Places.{on_slots, guarded_word, Adds, Gives}
use Rattle.code_draft.proofs.Placing.{ok_so, on_both, works_as, code_as, gives_first, gives_next, gives_last, constant_computes, less_computes, mux_computes, mux_word, adds_one, adds_then, out_first, out_third}
use Rattle.code_draft.proofs.places.guarded.Goals as goal

pub returns-clause-gives : goal.returns-clause-gives
returns-clause-gives c = ok_so c.computed-4.result c.computed-4.ensures.works (λ k last is index sum.
    let l = c.args.level in
    let i = l.index.low in
    let s = c.args.sum in
    let m = 2 ^ 64 - 1 in
    let a = c.args.draft.now in
    let b = c.computed.new.draft in
    let d = c.computed-2.new.draft in
    let e = c.computed-3.new.draft in
    let z = c.computed-4.new.draft in
    let f = c.in_ok-length.length in
    let g = c.in_ok-below.below in
    let h = c.in_ok-all.all in
    let one : Works a b (on_slots op.Constant 0 0 0 l.length) f = works_as a b _ _ f c.constant.ensures c.in_ok-length.ensures.works is (constant_computes a l.length) in
    let first = gives_first a b (on_slots op.Constant 0 0 0 l.length) f (λ F. l.length) one (λ words inputs F. refl) in
    let two : Works b d (on_slots op.Less i f 0 (2 ^ 64 - 1)) g =
    works_as b d _ _ g c.on.ensures c.in_ok-below.ensures.works one.grows.is (less_computes b i f (2 ^ 64 - 1) (one.grows.stays i index) one.written) in
    let second : Gives a d g (λ F. if nat_lt (slice_index F i) l.length then 1 else 0) =
    gives_next a b d (on_slots op.Less i f 0 (2 ^ 64 - 1)) f g (λ F. l.length) (λ F. if nat_lt (slice_index F i) l.length then 1 else 0) first two
    (λ words inputs F t. ap (λ n. if nat_lt (slice_index F i) n then 1 else 0) t) in
    let three : Works d e (on_slots op.Constant 0 0 0 l.all) h = works_as d e _ _ h c.constant-2.ensures c.in_ok-all.ensures.works two.grows.is (constant_computes d l.all) in
    let third = gives_first d e (on_slots op.Constant 0 0 0 l.all) h (λ F. l.all) three (λ words inputs F. refl) in
    let four : Works e z (on_slots op.Mux g s h (2 ^ 64 - 1)) k =
    works_as e z _ _ k c.on-2.ensures last three.grows.is (mux_computes e g s h (2 ^ 64 - 1) (three.grows.stays g two.written) (three.grows.stays s (second.grows.stays s sum)) three.written) in
    gives_last a d e z (on_slots op.Mux g s h (2 ^ 64 - 1)) g h k (λ F. if nat_lt (slice_index F i) l.length then 1 else 0) (λ F. l.all) (guarded_word l s) second third four
    (λ words inputs F t u. mux_word (nat_lt (slice_index F i) l.length) (slice_index F g) (slice_index F s) (slice_index F h) l.all t u))

pub returns-clause-adds : goal.returns-clause-adds
returns-clause-adds c = ok_so c.computed-4.result (on_both _ _ c.computed-4.result c.computed-4.ensures.place c.computed-4.ensures.code) (λ k last.
    let l = c.args.level in
    let i = l.index.low in
    let s = c.args.sum in
    let a = c.args.draft.now in
    let b = c.computed.new.draft in
    let d = c.computed-2.new.draft in
    let e = c.computed-3.new.draft in
    let z = c.computed-4.new.draft in
    let f = c.in_ok-length.length in
    let g = c.in_ok-below.below in
    let h = c.in_ok-all.all in
    let at = c.in_ok-length.ensures.place in
    let next = c.in_ok-below.ensures.place in
    let there = c.in_ok-all.ensures.place in
    let more = c.in_ok-length.ensures.slots in
    let further = c.in_ok-below.ensures.slots in
    let one : Adds a b [] = adds_one a b (on_slots op.Constant 0 0 0 l.length) [] refl (λ j t. t) (code_as a b _ _ c.constant.ensures c.in_ok-length.ensures.code) in
    let two : Adds b d (i ∷ f ∷ []) = adds_one b d (on_slots op.Less i f 0 (2 ^ 64 - 1)) (i ∷ f ∷ []) refl (λ j t. t) (code_as b d _ _ c.on.ensures c.in_ok-below.ensures.code) in
    let three : Adds d e [] = adds_one d e (on_slots op.Constant 0 0 0 l.all) [] refl (λ j t. t) (code_as d e _ _ c.constant-2.ensures c.in_ok-all.ensures.code) in
    let four : Adds e z (g ∷ s ∷ h ∷ []) = adds_one e z (on_slots op.Mux g s h (2 ^ 64 - 1)) (g ∷ s ∷ h ∷ []) refl (λ j t. t) (code_as e z _ _ c.on-2.ensures last.1) in
    let both : Adds a d (i ∷ s ∷ []) = adds_then a b d [] (i ∷ f ∷ []) (i ∷ s ∷ []) one two (λ j lt t. none_among j t) (λ j lt t. out_first i f s a.slots j (omega (arith, at)) lt t) in
    let third : Adds a e (i ∷ s ∷ []) = adds_then a d e (i ∷ s ∷ []) [] (i ∷ s ∷ []) both three (λ j lt t. t) (λ j lt t. none_among j t) in
    adds_then a e z (i ∷ s ∷ []) (g ∷ s ∷ h ∷ []) (i ∷ s ∷ []) third four (λ j lt t. t) (λ j lt t. out_third g s h i a.slots j (omega (arith, next, more)) (omega (arith, there, more, further)) lt t))
