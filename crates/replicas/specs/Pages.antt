-- What a page replica means: the page is the contents at the base, and the log has the sets as they were written.
use Rattle.std.specs.Prelude.{ℕ, List, refl}
use Rattle.rings.specs.Held.{size}
use Rattle.replicas.specs.declared.logs.Log.{Log}
use Rattle.replicas.specs.Model.{ReplicaModel}
use Rattle.replicas.specs.Logs.{sets_of, Backs}

abbrev pub page_model : List ℕ → Log → ReplicaModel
page_model page l = record { base = l.base; contents = page; sets = sets_of l; capacity = size l.ring }

pub page-backs : (page : List ℕ) (l : Log) → Backs (page_model page l) page l
page-backs page l = record { base = refl; items = refl; sets = refl; writes = refl; room = refl; bare = λ none. refl }
