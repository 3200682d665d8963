-- What is written.
use Rattle.std.proofs.Common.{ℕ, ◌+◌, List, [], ◌++◌, length, take, Option, Some, None, refl, sym, ap, subst, append-nil}
use Rattle.std.specs.Prelude.{Result, Ok, Err, OnOk, OnErr}
use Rattle.std.proofs.Math.Seq.{take-append-add}
use Rattle.shelf_io.specs.Outside.{Appends}
use Rattle.shelf_io.proofs.Written.{Appends-trans}

pub nothing_written : (w : Option (List ℕ)) → Appends w w []
nothing_written None = refl
nothing_written (Some bytes) = ap Some (sym (append-nil bytes))

-- after a head all of the lines are written, or a front of them
module _ {T E : Type 0} (old middle new : Option (List ℕ)) (head lines : List ℕ) (first : Appends old middle head) where
  pub all_behind : (r : Result T E) → OnOk r (Appends middle new lines) → OnOk r (Appends old new (head ++ lines))
  all_behind (Ok x) h = Appends-trans old middle new head lines first h
  all_behind (Err e) h = tt

  pub front_behind : (r : Result T E) → OnErr r ((n : ℕ) × Appends middle new (take n lines)) → OnErr r ((n : ℕ) × Appends old new (take n (head ++ lines)))
  front_behind (Ok x) h = tt
  front_behind (Err e) h = (length head + h.0, subst (Appends old new) (sym (take-append-add head lines h.0)) (Appends-trans old middle new head (take h.0 lines) first h.1))
