-- What a refusal says to a person.
use Rattle.std.specs.Prelude.{ℕ, List, codes}
use Rattle.replicas.specs.declared.replica.Refusal.{Refusal}
use Rattle.replicas.specs.declared.replica.Refusal.TheVariants.{InUse, NotKept, NoSuchItem, NoWrites, NoRoom, LastVersion, NoSuchSite}

abbrev pub refusal_text : Refusal → List ℕ
refusal_text InUse = codes "the replica is in use: opening words come before the first version"
refusal_text NotKept = codes "that version is not kept here"
refusal_text NoSuchItem = codes "there is no such item"
refusal_text NoWrites = codes "a set without writes is no version"
refusal_text NoRoom = codes "there are not enough records left: forget old versions first"
refusal_text LastVersion = codes "no version comes after 999,999"
refusal_text NoSuchSite = codes "there is no such site"
