-- Codes without ports.
use Rattle.std.proofs.Common.{◌≡◌, ℕ, List, [], length, sym, subst}
use Rattle.flat_code.specs.declared.instr.Instr.{Instr}
use Rattle.flat_code.specs.declared.instr.Port.{Port}
use Rattle.flat_code.specs.declared.instr.Wide.{Wide}
use Rattle.flat_code.specs.Fine.{AreFine, nothing}
use Rattle.flat_code.specs.Orders.{Single}

module _ (ports : List Port) (vs wides : List Wide) (is instrs : List Instr) (no_ports : ports ≡ []) (same : is ≡ instrs) where
  pub fine_now : (n m count : ℕ) → count ≡ length wides → AreFine n m 0 count is → AreFine n m (length ports) (length wides) instrs
  fine_now n m count counted fine =
      subst (λ (x : List Port). AreFine n m (length x) (length wides) instrs) (sym no_ports) (subst (λ w. AreFine n m 0 w instrs) counted (subst (AreFine n m 0 count) same fine))

  pub single_now : vs ≡ wides → Single nothing [] vs is → Single nothing ports wides instrs
  single_now same_wides single = subst (λ x. Single nothing x wides instrs) (sym no_ports) (subst (λ y. Single nothing [] y instrs) same_wides (subst (Single nothing [] vs) same single))
