-- What the ports of a memory write, as lists of values.
use Rattle.std.specs.Prelude.{ℕ, zero, suc, ◌+◌, ◌*◌, ◌&&◌, nat_lt, Bool, List, fold, map, zip, length, slice_get, Option, Some, None, option_map, if◌then◌else◌}
use Rattle.bit_words.specs.declared.value.Value.{Value}
use Rattle.prim_ops.specs.Values.{is_one}
use Rattle.prim_ops.specs.Ports.{set_to_write}
use Rattle.ground_net.specs.declared.net.NetMemory.{NetMemory}
use Rattle.ground_net.specs.declared.net.NetPort.{NetPort}
use Rattle.ground_net.specs.declared.net.NetWrite.{NetWrite}
use Rattle.net_run.specs.Seeing.{value_at}
use Rattle.net_run.specs.Keeping.{put_driven}

-- what goes into a leaf: the data where the mask is 1
abbrev pub written_value : List Value → Option ℕ → Option ℕ → Option Value
written_value values (Some mask) (Some leaf) = if is_one (value_at values mask) then Some (value_at values leaf) else None
written_value values (Some mask) None = None
written_value values None leaf = None

-- So many leaves of the element at an address are written.
abbrev pub put_leaves : List Value → NetWrite → ℕ → ℕ → ℕ → List Value → List Value
put_leaves values write address leaves zero held = held
put_leaves values write address leaves (suc k) held =
    put_driven (written_value values (slice_get write.masks k) (slice_get write.leaves k)) (address * leaves + k) (put_leaves values write address leaves k held)

abbrev pub put_element : NetMemory → List Value → Option NetWrite → Bool → ℕ → List Value → List Value
put_element memory values (Some write) set address held =
    if set && nat_lt address memory.depth then put_leaves values write address (length memory.elements) (length memory.elements) held else held
put_element memory values None set address held = held

-- whether a port is set to write
abbrev pub is_set_to_write : List Value → NetPort → Bool
is_set_to_write values port = set_to_write (is_one (value_at values port.en)) (option_map (λ x. is_one (value_at values x)) port.mode)

-- What a memory holds after a port, and after ports in their order.
abbrev pub over_port : NetMemory → List Value → List Value → NetPort → List Value
over_port memory values held port = put_element memory values port.write (is_set_to_write values port) (value_at values port.addr).bits held

abbrev pub over_ports : NetMemory → List Value → List NetPort → List Value → List Value
over_ports memory values ports held = fold (over_port memory values) held ports

-- What the memories hold after all writes.
abbrev pub memory_over : List Value → NetMemory × List Value → List Value
memory_over values both = over_ports both.0 values both.0.ports both.1

abbrev pub contents_over : List NetMemory → List Value → List (List Value) → List (List Value)
contents_over memories values contents = map (memory_over values) (zip memories contents)
