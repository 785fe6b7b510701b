-- Regions of addresses. Document 01, 'Memory and tape'.
use Rattle.std.specs.Prelude.{ℕ, ltb}
use Rattle.rules.specs.Numbers.{p, stack_end, heap_end, choose}
use Rattle.hardware.specs.declared.regions.Region.{Region}
use Rattle.hardware.specs.declared.regions.Region.TheVariants.{Stack, Heap, Prophet, Outside}

abbrev pub region_of : ℕ → Region
region_of a = choose (ltb a stack_end) Stack (choose (ltb a heap_end) Heap (choose (ltb a p) Prophet Outside))
