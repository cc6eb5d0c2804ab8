-- An instruction as code has it.
use Rattle.sheet.specs.Module
use Rattle.rule7_words.specs.declared.Inst.{Inst}

-- an instruction as the definitions have it
unfoldable pub inst : Inst → Module.Inst
inst i = record { low = i.low; high = i.high }
