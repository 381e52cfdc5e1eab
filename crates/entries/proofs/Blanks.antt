-- A default for reading past the end of a list of writes.
use Rattle.entries.specs.declared.writes.Write.{Write}

abbrev pub no_write : Write
no_write = record { item = 0; word = 0 }
