-- What the walk through the bodies keeps.
use Rattle.std.specs.Prelude.{◌≡◌, ◌++◌, ◌+◌, ℕ, nat_eq, List, [], map}
use Rattle.std.specs.Map.{lookup}
use Rattle.reset_search.specs.declared.spot.Reach.{Reach}
use Rattle.reset_search.specs.declared.spot.Feeds.{Feeds}
use Rattle.reset_search.specs.Feeds.{Known, Gathered, Walk, Instances, WithPorts, instance_in, reach, in_turn, stmt_walk, known_ports, ports_asyncs}
use Rattle.reset_resolution.specs.declared.walk.Found.{Found}
use Rattle.reset_resolution.specs.declared.walk.Source.{Source}
use Rattle.reset_resolution.specs.declared.gathering.Ported.{Ported}

-- instances by a list
abbrev pub listed : Known → Instances
listed instances name = lookup (nat_eq name) instances

-- the list of instances of these modules: of each name the first
pub record AreInstances (modules : List WithPorts) (instances : Known) : Type 0 where
  pub found : (name : ℕ) → listed instances name ≡ instance_in modules name

abbrev pub ported : Ported → WithPorts
ported held = record { holder = held.holder.now; ports = held.ports }

abbrev pub found_as : Source → Reach
found_as source = reach source.known.typ source.spots

-- a part of a body was walked
pub record Walks (part : Walk) (old new : Found) : Type 0 where
  pub known : new.known.entries ≡ (part old.known.entries old.numbered.next old.nodes).known
  pub declared : new.numbered.next ≡ old.numbered.next + (part old.known.entries old.numbered.next old.nodes).declared
  pub nodes : new.nodes ≡ old.nodes + (part old.known.entries old.numbered.next old.nodes).nodes
  pub feeds : new.feeds ≡ old.feeds ++ (part old.known.entries old.numbered.next old.nodes).feeds
  pub asyncs : new.asyncs ≡ old.asyncs ++ (part old.known.entries old.numbered.next old.nodes).asyncs

-- bodies were walked
pub record WalksBodies (bodies : Feeds) (old new : Found) : Type 0 where
  pub feeds : new.feeds ≡ old.feeds ++ bodies.feeds
  pub asyncs : new.asyncs ≡ old.asyncs ++ bodies.asyncs

-- the body of a module was walked
abbrev pub body_of : Instances → WithPorts → ℕ → ℕ → Gathered
body_of instances m n k = in_turn (map (stmt_walk instances) m.holder.body) (known_ports m.holder.ports m.ports []) n k

pub record WalksBody (instances : Instances) (m : WithPorts) (old new : Found) : Type 0 where
  pub declared : new.numbered.next ≡ old.numbered.next + (body_of instances m old.numbered.next old.nodes).declared
  pub nodes : new.nodes ≡ old.nodes + (body_of instances m old.numbered.next old.nodes).nodes
  pub feeds : new.feeds ≡ old.feeds ++ (body_of instances m old.numbered.next old.nodes).feeds
  pub asyncs : new.asyncs ≡ old.asyncs ++ (ports_asyncs m.holder.ports m.ports ++ (body_of instances m old.numbered.next old.nodes).asyncs)
