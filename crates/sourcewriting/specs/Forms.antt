-- In which form a proof is written: normal, or compressed (Metamath book, section 4.2.8, appendix B).
use Rattle.std.specs.Prelude.{Bool, true, false, Option, Some, None}
use Rattle.source.specs.Statements.{Proof, normal, compressed}

-- that of another proof; compressed where there is none
abbrev pub is_compressed_form : Option Proof → Bool
is_compressed_form (Some (normal steps)) = false
is_compressed_form (Some (compressed labels letters)) = true
is_compressed_form None = true
