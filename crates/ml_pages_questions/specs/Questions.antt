-- The questions about an archive for the web: its pages, and the list of them.
use Rattle.std.specs.Prelude.{◌≡◌, ◌⊎◌, Bool, true, false, List, Option, None}
use Rattle.ml_filing.specs.Answers.{IsBadForThread, IsThreadName, IsWholeAnswer}
use Rattle.ml_filing.specs.Threads.{IsArchive}
use Rattle.ml_filing.specs.declared.posts.Post.{Post}
use Rattle.ml_filing.specs.declared.posts.Thread.{Thread}
use Rattle.ml_base.specs.Bytes.{Text}
use Rattle.ml_base.specs.Dir.{Dir}
use Rattle.ml_base.specs.declared.names.Name.{Name}
use Rattle.ml_config.specs.declared.configuration.Config.{Config}
use Rattle.ml_pages.specs.Counting.{months_of, threads_of}
use Rattle.ml_pages.specs.Pages.{list_text, month_page, thread_page}
use Rattle.ml_pages.specs.Parts.{IsPageFound, may_be_there}
use Rattle.ml_pages.specs.Reads.{AreIndexesRead, AreThreadsRead, IsBadIndexes, IsBadThreadFile, IsIndexesName, IsThreadsName}
use Rattle.ml_reading.specs.Meanings.{Meaning}
use Rattle.ml_reading.specs.Queries.{text_or_absent}
use Rattle.ml_reading.specs.declared.question.Answer.{Answer}
use Rattle.ml_reading.specs.declared.question.Answer.TheVariants as answers
use Rattle.ml_pages_questions.specs.declared.pages.PageQuery.{PageQuery}
use Rattle.ml_pages_questions.specs.declared.pages.PageQuery.TheVariants as queries

-- what answers a page query of posts: the list of months and threads, or one page, which may be absent
abbrev pub answer_of : PageQuery → Config → List Post → Answer
answer_of queries.List c posts = answers.Text (list_text (months_of posts) (threads_of c.prefix posts))
answer_of (queries.Month year month page) c posts = text_or_absent (month_page c year month page posts)
answer_of (queries.Thread first page) c posts = text_or_absent (thread_page c first page posts)

-- How files are read, whatever they hold. The list of pages is given only if all its files are in their grammar. A month's page is absent only
-- if the number of posts and the indexes are, and a thread's page is absent or there by the thread that the files have of the post.
abbrev pub IsRead : PageQuery → Config → Dir → Answer → Type 0
IsRead queries.List c dir answer = AreIndexesRead dir × AreThreadsRead dir
IsRead (queries.Month year month page) c dir answer =
    (text : Option Text) × (answer ≡ text_or_absent text) × (text ≡ None → may_be_there year month page ≡ true → AreIndexesRead dir)
IsRead (queries.Thread first page) c dir answer =
    (text : Option Text) × (answer ≡ text_or_absent text) × (found : Option Thread) × IsWholeAnswer dir c.prefix first found × IsPageFound first page found text

-- what answers a page query of files: what the posts answer for which the files stand, and the files are read as above
abbrev pub IsAnswer : PageQuery → Config → Dir → Answer → Type 0
IsAnswer query c dir answer = ((posts : List Post) → IsArchive dir c.prefix posts → answer ≡ answer_of query c posts) × IsRead query c dir answer

-- the number of posts, the indexes and the thread files
abbrev pub IsListName : Name → Type 0
IsListName name = IsIndexesName name ⊎ IsThreadsName name

abbrev pub IsBadForList : Dir → Name → Type 0
IsBadForList dir name = IsBadIndexes dir name ⊎ IsBadThreadFile dir name

-- the files that it may read, besides the configuration
abbrev pub MayRead : PageQuery → Name → Type 0
MayRead queries.List name = IsListName name
MayRead (queries.Month year month page) name = IsIndexesName name
MayRead (queries.Thread first page) name = IsThreadName name

-- a file of these that is outside its grammar, or names what isn't there
abbrev pub IsBadFile : PageQuery → Config → Dir → Name → Type 0
IsBadFile queries.List c dir name = IsBadForList dir name
IsBadFile (queries.Month year month page) c dir name = IsBadIndexes dir name
IsBadFile (queries.Thread first page) c dir name = IsBadForThread dir c.prefix first name

-- whether it asks for one page, which may be absent
abbrev pub asks_for_one : PageQuery → Bool
asks_for_one queries.List = false
asks_for_one (queries.Month year month page) = true
asks_for_one (queries.Thread first page) = true

-- what a page query means
abbrev pub page_meaning : PageQuery → Meaning
page_meaning query = record {
  by_files = IsAnswer query;
  of_list = λ list. answer_of query list.config list.posts;
  may_miss = asks_for_one query;
  may_exceed = false;
  is_read = MayRead query;
  is_bad = IsBadFile query;
}
