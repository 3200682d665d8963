use Rattle.fir_types.proofs.Held.{held_key}
use Rattle.fir_types.proofs.keys.taken_keys_are_held.Goals as goal

pub returns : goal.returns
returns c = held_key
