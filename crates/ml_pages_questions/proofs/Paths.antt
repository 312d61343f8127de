-- The files that a page is made of stand in the table of files.
use Rattle.std.proofs.Common.{◌<◌, inl, inr, ℕ, IsTrue, Result, Ok, Err, refl, arith}
use Rattle.std.specs.Prelude.{IfErr}
use Rattle.ml_filing.specs.Threads.{thread_name}
use Rattle.ml_filing.proofs.Looking.{group_in_table}
use Rattle.ml_filing.proofs.Represented.{in_table}
use Rattle.ml_base.specs.Name.{is_in_table}
use Rattle.ml_base.specs.PartErrors.{OnDamaged}
use Rattle.ml_base.specs.declared.names.Name.{Name}
use Rattle.ml_base.specs.declared.part_error.PartError.{PartError}
use Rattle.ml_base.specs.declared.part_error.PartError.TheVariants.{Fault, Memory, Damaged}
use Rattle.ml_reading.proofs.Paths.{stands_at}
use Rattle.ml_pages.specs.Reads.{IsIndexesName, IsThreadsName}
use Rattle.ml_pages_questions.specs.Questions.{MayRead}
use Rattle.ml_pages_questions.specs.declared.pages.PageQuery.{PageQuery}
use Rattle.ml_pages_questions.specs.declared.pages.PageQuery.TheVariants as queries

thread_in_table : (n : ℕ) → n < 256 → IsTrue (is_in_table (thread_name n))
thread_in_table n less = in_table 20 n 0 255 refl refl (omega arith) (omega (arith, less))

of_indexes : (name : Name) → IsIndexesName name → IsTrue (is_in_table name)
of_indexes name (inl e) = stands_at name _ e refl
of_indexes name (inr may) = stands_at name _ may.2 (group_in_table may.0 may.1)

of_threads : (name : Name) → IsThreadsName name → IsTrue (is_in_table name)
of_threads name may = stands_at name _ may.2 (thread_in_table may.0 may.1)

read_in_table : (query : PageQuery) (name : Name) → MayRead query name → IsTrue (is_in_table name)
read_in_table queries.List name (inl may) = of_indexes name may
read_in_table queries.List name (inr may) = of_threads name may
read_in_table (queries.Month year month page) name may = of_indexes name may
read_in_table (queries.Thread first page) name (inl e) = stands_at name _ e refl
read_in_table (queries.Thread first page) name (inr (inl may)) = stands_at name _ may.2 (group_in_table may.0 may.1)
read_in_table (queries.Thread first page) name (inr (inr may)) = of_threads name may

pub path_of : {T : Type 0} (query : PageQuery) (r : Result T PartError) → IfErr r (λ e. OnDamaged e (MayRead query)) → IfErr r (λ e. OnDamaged e (λ name. IsTrue (is_in_table name)))
path_of query (Ok answer) may = tt
path_of query (Err Fault) may = tt
path_of query (Err Memory) may = tt
path_of query (Err (Damaged name)) may = read_in_table query name may
