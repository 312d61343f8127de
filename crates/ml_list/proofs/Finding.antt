-- What an item found, by its number and its request.
use Rattle.std.proofs.Common.{◌≡◌, true, false, List, Result, Ok, Err, IfOk}
use Rattle.ml_address.specs.Requests.{PlainRequest, Post, Accept, Reject}
use Rattle.ml_base.specs.Bytes.{Text}
use Rattle.ml_base.specs.Dir.{Dir}
use Rattle.ml_base.specs.declared.part_error.PartError.{PartError}
use Rattle.ml_base.specs.declared.puts.Put.{Put}
use Rattle.ml_config.specs.declared.configuration.Config.{Config}
use Rattle.ml_plain.specs.declared.Act.{Act}
use Rattle.ml_plain.specs.declared.Reply.{Reply}
use Rattle.ml_manage.specs.Found.{FoundByRequest}
use Rattle.ml_list.specs.Delivering.{is_other}
use Rattle.ml_list.specs.Found.{FoundByAct, FoundNow, FoundOfRequest, KeepsReply}

-- one that is neither a post nor a moderator's answer
pub found_other : (dir : Dir) (c : Config) (sender m : Text) (done : List Put × Reply) (r : PlainRequest) → is_other r ≡ true → FoundByRequest dir c sender m r done → FoundOfRequest dir c sender m r done
found_other dir c sender m done Post is e = absurd (let bad : false ≡ true = is in cc)
found_other dir c sender m done (Accept ticket cookie) is e = absurd (let bad : false ≡ true = is in cc)
found_other dir c sender m done (Reject ticket cookie) is e = absurd (let bad : false ≡ true = is in cc)
found_other dir c sender m done r is e = e

-- an act's answer, and puts after it that keep its reply
pub found_now : (dir : Dir) (act : Act) (own : List Put × Reply) (r : Result (List Put × Reply) PartError) → FoundByAct dir act own → IfOk r (KeepsReply own) → IfOk r (FoundNow dir act)
found_now dir act own (Err e) found keeps = tt
found_now dir act own (Ok done) found keeps = record { own = own; found = found; with_reply = keeps }
