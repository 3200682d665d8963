-- The ports of a memory (FIRRTL specification 3.0, "Memories"): what they write and read in a cycle.
--
-- A memory has elements, numbered from 0, and each element has leaves, by the ways to them.
use Rattle.std.specs.Prelude.{ℕ, ◌==◌, ◌&&◌, not, nat_lt, Bool, List, fold, ℤ, pos, Option, Some, None, if◌then◌else◌}

-- A port is set to write: a writer with `en` 1, or a readwriter with `en` and `wmode` 1.
abbrev pub set_to_write : Bool → Option Bool → Bool
set_to_write en None = en
set_to_write en (Some wmode) = en && wmode

-- A port is set to read: a reader with `en` 1, or a readwriter with `en` 1 and `wmode` 0.
abbrev pub set_to_read : Bool → Option Bool → Bool
set_to_read en None = en
set_to_read en (Some wmode) = en && not wmode

-- What a port shows in a cycle: whether it is set to write and to read, the number at its address, and for each leaf of an
-- element what it writes and whether its mask is 1.
pub record Shown (Way : Type 0) : Type 0 where
  pub writes : Bool
  pub reads : Bool
  pub address : ℕ
  pub written : Way → ℤ
  pub masked : Way → Bool

-- What the elements hold: an integer for each element and each leaf of it.
abbrev pub Held : Type 0 → Type 0
Held Way = ℕ → Way → ℤ

-- The contents after a port: a port that writes puts its data into each leaf of the element at its address whose mask is 1.
-- Past the depth nothing is written.
abbrev pub after_port : {Way : Type 0} → ℕ → Held Way → Shown Way → Held Way
after_port depth before port element way =
    if (port.writes && nat_lt port.address depth) && ((port.address == element) && port.masked way) then port.written way else before element way

-- The contents after all writes of a cycle, port by port in declared order: of two writes to one leaf the later port's stays.
abbrev pub after_ports : {Way Port : Type 0} → ℕ → (Port → Shown Way) → List Port → Held Way → Held Way
after_ports depth show ports before = fold (λ held port. after_port depth held (show port)) before ports

-- What a port reads from given contents: 0 where it doesn't read, and past the depth.
abbrev pub read_by_port : {Way : Type 0} → ℕ → Held Way → Shown Way → Way → ℤ
read_by_port depth contents port way = if port.reads && nat_lt port.address depth then contents port.address way else pos 0
