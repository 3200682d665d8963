-- Refining ends where no move lowers the greatest cost.
use Rattle.std.proofs.Common.{ℕ, List}
use Rattle.cut_refine.specs.Refining.{IsGreatest, NoneLowers, Refines, ended, improved, moved}

pub none_lowers : (cone : ℕ → ℕ → Type 0) (workers : ℕ) (owners last : List ℕ) (least : ℕ) → Refines cone workers owners last least → NoneLowers cone workers last least
none_lowers cone workers owners last least (ended greatest is none) = none
none_lowers cone workers owners last least (improved greatest l move is best rest) = none_lowers cone workers (moved owners move) last least rest

pub ends_greatest : (cone : ℕ → ℕ → Type 0) (workers : ℕ) (owners last : List ℕ) (least : ℕ) → Refines cone workers owners last least → IsGreatest cone workers last least
ends_greatest cone workers owners last least (ended greatest is none) = is
ends_greatest cone workers owners last least (improved greatest l move is best rest) = ends_greatest cone workers (moved owners move) last least rest
