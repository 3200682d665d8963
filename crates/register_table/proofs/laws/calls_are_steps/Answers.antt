use Rattle.std.proofs.Common.{refl}
use Rattle.register_table.proofs.Steps.{shares, stays, passes, arrives_is, reads, publishes_is, unites, finishes, stays_sound}
use Rattle.register_table.proofs.laws.calls_are_steps.Goals as goal

pub returns : goal.returns
returns c = record {
  opens = λ s. refl;
  shares = shares;
  stays = stays;
  passes = passes;
  arrives = arrives_is;
  reads = reads;
  publishes = publishes_is;
  unites = unites;
  finishes = finishes;
  sound = stays_sound;
}
