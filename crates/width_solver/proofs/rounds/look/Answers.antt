use Rattle.std.proofs.Common.{[], false, refl}
use Rattle.std.proofs.lemmas.List.{length-set, get_or_read}
use Rattle.std.proofs.lemmas.Option.{slice_get_read}
use Rattle.width_solver.proofs.Standing.{readers_within, stands_met, stands_raised, rises_raised}
use Rattle.width_solver.proofs.rounds.look.Goals as goal

pub wake-requires : goal.wake-requires
wake-requires c =
    let fits = rw (← c.index-rules-number.is) at (c.requires.rules c.args.number c.index-rules-number.result c.requires.number) in
    let read = get_or_read c.args.readers.now _ _ fits.target c.index-readers-rule.is [] in
    record { within = rw (c.as_slice.ensures, read, length-set c.args.waits.now.items c.args.number false, c.requires.counted) (readers_within c.requires.readers _) }

pub returns-in_ok-wake-clause-stands : goal.returns-in_ok-wake-clause-stands
returns-in_ok-wake-clause-stands c rest s =
    let fits = rw (← c.index-rules-number.is) at (c.requires.rules c.args.number c.index-rules-number.result c.requires.number) in
    let read = get_or_read c.args.readers.now _ _ fits.target c.index-readers-rule.is [] in
    let is = slice_get_read c.args.rules.now _ _ _ refl c.requires.number c.index-rules-number.is in
    rw (c.if-raise.ensures.value refl)
    (stands_raised c.args.rules.now _ _ _ rest _ _ _ is s fits (c.if-raise.ensures.less refl) c.args.readers.now _ _ c.requires.readers (rw (c.as_slice.ensures, read) at c.in_ok-wake.ensures))

pub returns-in_ok-wake-clause-rises : goal.returns-in_ok-wake-clause-rises
returns-in_ok-wake-clause-rises c before r =
    let fits = rw (← c.index-rules-number.is) at (c.requires.rules c.args.number c.index-rules-number.result c.requires.number) in
    rw (c.if-raise.ensures.value refl) (rises_raised before _ _ _ _ _ (rw (← c.requires.widths) at fits.target) (c.if-raise.ensures.less refl) r)

pub returns-else-raise-clause-stands : goal.returns-else-raise-clause-stands
returns-else-raise-clause-stands c rest s =
    let is = slice_get_read c.args.rules.now _ _ _ refl c.requires.number c.index-rules-number.is in
    rw (c.if-raise.ensures.same refl) (stands_met c.args.rules.now _ _ _ rest _ _ _ is s (c.if-raise.ensures.met refl))
