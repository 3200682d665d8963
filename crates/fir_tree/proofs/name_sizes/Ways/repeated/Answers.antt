use Rattle.fir_tree.proofs.Wording.{leaves_begin, bytes_begin, leaves_on, bytes_on, leaves_around, bytes_around}
use Rattle.fir_tree.proofs.name_sizes.Ways.repeated.Goals as goal

pub returns-clause-leaves : goal.returns-clause-leaves
returns-clause-leaves c vector element is leaves =
    leaves_around vector element c.longer.result.elements c.args.self.leaves c.around.result.leaves
    (leaves_on vector vector element c.args.length 1 c.longer.result.elements is (leaves_begin vector) c.longer.ensures.elements) leaves c.around.ensures.leaves

pub returns-clause-bytes : goal.returns-clause-bytes
returns-clause-bytes c texts vector element is leaves bytes =
    bytes_around texts vector element c.longer.result.elements c.longer.result.indices c.args.self.leaves c.args.self.bytes c.around.result.bytes
    (bytes_on texts vector vector element c.args.length 1 0 c.longer.result.elements c.longer.result.indices is (bytes_begin texts vector) c.longer.ensures.elements
    c.longer.ensures.indices) leaves bytes c.around.ensures.bytes
