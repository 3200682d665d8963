use Rattle.std.proofs.Common.{subst}
use Rattle.part_compile.specs.Counts.{CountsLive}
use Rattle.part_compile.specs.Rooms.{read_by_sinks}
use Rattle.part_compile.proofs.room.room_of.Goals as goal

pub most_live-most-requires-clause-counts : goal.most_live-most-requires-clause-counts
most_live-most-requires-clause-counts c =
    let read = read_by_sinks c.args.net.now c.args.watch.now c.args.part.now in
    c.read_sinks.ensures read c.args.part.now.assignments (λ y d. d) (subst (λ xs. CountsLive read xs c.in_ok-live.live) c.as_slice.ensures (c.in_ok-live.ensures read))
