use Rattle.std.proofs.Common.{◌≡◌, refl}
use Rattle.ml_digest.proofs.Told.{end_text}
use Rattle.ml_digest.proofs.Whole.{no_header_there, untitled, no_preface_there, no_entries_there, is_digest, same_burst}
use Rattle.ml_digest.proofs.digest_reader.read_digest.Goals as goal

pub returns-in_default-clause-none : goal.returns-in_default-clause-none
returns-in_default-clause-none c = no_header_there c.args.text.now c.in_default.ensures.none

pub returns-in_default-clause-read : goal.returns-in_default-clause-read
returns-in_default-clause-read c = λ issue messages is. absurd (no_header_there c.args.text.now c.in_default.ensures.none issue messages is)

pub returns-in_default-title_of-clause-none : goal.returns-in_default-title_of-clause-none
returns-in_default-title_of-clause-none c = untitled c.args.text.now c.in-Some.subject.now c.in-Some.rest.now c.in-Some.ensures.some c.in_default-title_of.ensures.none

pub returns-in_default-title_of-clause-read : goal.returns-in_default-title_of-clause-read
returns-in_default-title_of-clause-read c = λ issue messages is. absurd (untitled c.args.text.now c.in-Some.subject.now c.in-Some.rest.now c.in-Some.ensures.some c.in_default-title_of.ensures.none issue messages is)

pub returns-in_default-split_preface-clause-none : goal.returns-in_default-split_preface-clause-none
returns-in_default-split_preface-clause-none c = no_preface_there c.args.text.now c.in-Some.subject.now c.in-Some.rest.now c.in-Some.ensures.some c.in_default-split_preface.ensures.none

pub returns-in_default-split_preface-clause-read : goal.returns-in_default-split_preface-clause-read
returns-in_default-split_preface-clause-read c = λ issue messages is. absurd (no_preface_there c.args.text.now c.in-Some.subject.now c.in-Some.rest.now c.in-Some.ensures.some c.in_default-split_preface.ensures.none issue messages is)

pub returns-in-Some-2-clause-some : goal.returns-in-Some-2-clause-some
returns-in-Some-2-clause-some c =
    let ends : c.as_slice.result.now ≡ end_text c.in-Some-title_of.title.name.now c.in-Some-title_of.title.issue = rw (c.as_slice.ensures, c.in_ok-add_end.ensures, c.new-end.ensures) refl in
    let some = rw c.in-Some-2.is at c.in_ok-messages.ensures.some in
    is_digest c.args.text.now c.in-Some.subject.now c.in-Some.rest.now c.in-Some.ensures.some c.in-Some-title_of.title.name.now c.in-Some-title_of.title.issue c.in-Some-title_of.ensures.some c.in-Some-split_preface.rest.now c.as_slice.result.now c.in-Some-split_preface.ensures.some ends c.in-Some-2.messages some

pub returns-in-Some-2-clause-read : goal.returns-in-Some-2-clause-read
returns-in-Some-2-clause-read c = λ issue messages is.
    let ends : c.as_slice.result.now ≡ end_text c.in-Some-title_of.title.name.now c.in-Some-title_of.title.issue = rw (c.as_slice.ensures, c.in_ok-add_end.ensures, c.new-end.ensures) refl in
    let some = rw c.in-Some-2.is at c.in_ok-messages.ensures.some in
    same_burst c.args.text.now c.in-Some-title_of.title.issue issue c.in-Some-2.messages messages (is_digest c.args.text.now c.in-Some.subject.now c.in-Some.rest.now c.in-Some.ensures.some c.in-Some-title_of.title.name.now c.in-Some-title_of.title.issue c.in-Some-title_of.ensures.some c.in-Some-split_preface.rest.now c.as_slice.result.now c.in-Some-split_preface.ensures.some ends c.in-Some-2.messages some) is

pub returns-clause-none : goal.returns-clause-none
returns-clause-none c =
    let ends : c.as_slice.result.now ≡ end_text c.in-Some-title_of.title.name.now c.in-Some-title_of.title.issue = rw (c.as_slice.ensures, c.in_ok-add_end.ensures, c.new-end.ensures) refl in
    let none = rw c.in-None.is at c.in_ok-messages.ensures.none in
    no_entries_there c.args.text.now c.in-Some.subject.now c.in-Some.rest.now c.in-Some.ensures.some c.in-Some-title_of.title.name.now c.in-Some-title_of.title.issue c.in-Some-title_of.ensures.some c.in-Some-split_preface.rest.now c.as_slice.result.now c.in-Some-split_preface.ensures.some ends none

pub returns-clause-read : goal.returns-clause-read
returns-clause-read c = λ issue messages is.
    let ends : c.as_slice.result.now ≡ end_text c.in-Some-title_of.title.name.now c.in-Some-title_of.title.issue = rw (c.as_slice.ensures, c.in_ok-add_end.ensures, c.new-end.ensures) refl in
    let none = rw c.in-None.is at c.in_ok-messages.ensures.none in
    absurd (no_entries_there c.args.text.now c.in-Some.subject.now c.in-Some.rest.now c.in-Some.ensures.some c.in-Some-title_of.title.name.now c.in-Some-title_of.title.issue c.in-Some-title_of.ensures.some c.in-Some-split_preface.rest.now c.as_slice.result.now c.in-Some-split_preface.ensures.some ends none issue messages is)
