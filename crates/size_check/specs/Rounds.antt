-- What the rounds over all modules keep.
use Rattle.std.specs.Prelude.{ℕ, ◌+◌, ◌*◌, List, map}
use Rattle.fir_tree.specs.declared.circuit.Module.{Module}
use Rattle.fir_tree.specs.LeafNames.{Texts}
use Rattle.size_check.specs.declared.sums.Sums.{Sums}
use Rattle.size_check.specs.declared.sums.Total.{Total}
use Rattle.size_check.specs.Caps.{capped, capped_total}
use Rattle.size_check.specs.Owns.{module_own}
use Rattle.size_check.specs.Standings.{standings, total_of}

-- what each module has of its own
abbrev pub owns_of : Texts → List Module → List Sums
owns_of texts modules = map (λ m. capped (module_own texts modules m)) modules

-- what stands at the paths of at most so many names, from each module on
abbrev pub totals_at : Texts → List Module → ℕ → List Total
totals_at texts modules d = map (λ m. capped_total (total_of texts modules (standings modules d m))) modules

-- the same behind one more name, of so many bytes
abbrev pub deeper : Total → ℕ → Total
deeper total length = record { sums = record total.sums { bytes = total.sums.bytes + total.sums.names * (length + 1) }; depth = total.depth + 1 }
