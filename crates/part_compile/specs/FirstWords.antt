-- The first words of the registers and captured reads of a net.
use Rattle.std.specs.Prelude.{◌≡◌, ℕ, ◌+◌, ◌^◌, ◌<◌, ◌≤◌, List, All, length, slice_index}
use Rattle.ground_net.specs.declared.net.Net.{Net}
use Rattle.ground_net.specs.declared.net.NetMemory.{NetMemory}
use Rattle.ground_net.specs.Cycles.{Capture, captures}
use Rattle.ground_net.specs.Words.{register_word, captured_word, element_words}
use Rattle.part_compile.specs.declared.captured.CapturedRead.{CapturedRead}
use Rattle.part_compile.specs.declared.words.FirstWords.{FirstWords}

-- what is told of a captured read
abbrev pub told_of : Capture → CapturedRead
told_of c = record { memory = c.number; leaf = c.leaf }

-- These are the first words, and behind each list the word behind its last.
pub record AreFirst (net : Net) (words : FirstWords) : Type 0 where
  pub all_registers : length words.registers ≡ length net.registers + 1
  pub registers : (n : ℕ) → n ≤ length net.registers → slice_index words.registers n ≡ register_word net n
  pub all_captured : length words.captured ≡ length (captures net) + 1
  pub captured : (n : ℕ) → n ≤ length (captures net) → slice_index words.captured n ≡ captured_word net n

-- From its memory's first word on the words of an element have numbers of 32 bits, also where a memory has no element.
abbrev pub HaveNumbers : List NetMemory → Type 0
HaveNumbers memories = All (λ memory. memory.word + element_words memory < 2 ^ 32) memories
