-- The verdict over a net that serves a circuit, of which the net is what is made.
use Rattle.std.proofs.Common.{sym, subst}
use Rattle.std.specs.Prelude.{Result, Ok, Err}
use Rattle.place_text.specs.Verdicts.{IsVerdict}
use Rattle.fir_tree.specs.LeafNames.{Texts}
use Rattle.fir_meaning.specs.Components.{Design}
use Rattle.ground_net.specs.declared.net.Net.{Net}
use Rattle.ground_net.specs.declared.net.Ordered.{Ordered}
use Rattle.ground_net.specs.Reads.{IsOrder}
use Rattle.net_laws.specs.Serves.{Serves}
use Rattle.comb_order.specs.declared.fault.OrderFault.{OrderFault}
use Rattle.comb_order.specs.Faults.{place_of, rank_of}
use Rattle.net_laws.specs.FirstLoops.{IsLoopFault, IsOrderedFor}
use Rattle.sim_engine.specs.OrderedNets.{IsOrderedNet}

made_of : (texts : Texts) (design : Design) (net : Net) (ordered : Ordered) → Serves texts design net → IsOrderedFor design net ordered → IsOrderedNet texts design ordered
made_of texts design net ordered serves made = record {
  serves = subst (Serves texts design) (sym made.unchanged) serves;
  sequence = subst (λ (n : Net). IsOrder n ordered.sequence) (sym made.unchanged) made.sequence;
  no_loop = made.no_loop;
}

pub served : (texts : Texts) (design : Design) (net : Net) (result : Result Ordered OrderFault) → Serves texts design net → IsVerdict place_of rank_of (IsLoopFault design) (IsOrderedFor design net) result → IsVerdict place_of rank_of (IsLoopFault design) (IsOrderedNet texts design) result
served texts design net (Ok ordered) serves v = record {
  ok = made_of texts design net ordered serves v.ok;
  none = v.none;
  fault = v.fault;
  accepts = λ none. made_of texts design net ordered serves v.ok;
  refuses = v.refuses;
}
served texts design net (Err given) serves v = record { ok = tt; none = tt; fault = v.fault; accepts = v.accepts; refuses = v.refuses }
