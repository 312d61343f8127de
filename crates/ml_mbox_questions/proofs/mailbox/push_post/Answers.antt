use Rattle.std.proofs.Common.{◌≡◌, ◌/◌, ◌++◌, ◌∙◌, min, ℕ, ap, sym, subst, inl, inr, refl, arith, rules}
use Rattle.ml_base.specs.PartErrors.{OnDamaged}
use Rattle.ml_base.specs.declared.names.Name.{Name}
use Rattle.ml_base.proofs.DamagedNames.{on_both, on_damaged}
use Rattle.ml_filing.specs.Answers.{IsOtherSize, IsPostName}
use Rattle.ml_filing.specs.Archive.{index_name, post_name}
use Rattle.ml_mbox.specs.Mbox.{mail_text}
use Rattle.ml_mbox.specs.declared.mails.Mailed.{Mailed}
use Rattle.ml_mbox_questions.specs.Steps.{IsBadIndexed}
use Rattle.ml_mbox_questions.proofs.mailbox.push_post.Goals as goal

pub message_of-requires-clause-low : goal.message_of-requires-clause-low
message_of-requires-clause-low g c = let named = c.in-Some.ensures.number in let low = c.requires.low in omega (arith, named, low)

pub message_of-requires-clause-high : goal.message_of-requires-clause-high
message_of-requires-clause-high g c = let named = c.in-Some.ensures.number in let high = c.requires.high in omega (arith, named, high)

pub returns-in_default-clause-names : goal.returns-in_default-clause-names
returns-in_default-clause-names g c = record {
  named = inl refl;
  damaged = λ told. inl (refl, c.in_default.ensures.none (g.F.Files.map c.args.files.now) (c.requires.known told) c.requires.there);
}

pub returns-in_err-message-clause-names : goal.returns-in_err-message-clause-names
returns-in_err-message-clause-names g c =
    let n = c.args.number in
    let entry = c.in-Some.entry.now in
    let same = c.in-Some.ensures.number in
    let e = c.in_err-message.field-0.0 in
    let failed = c.in_err-message.ensures.names in
    record {
      named =
          let own : OnDamaged e (IsPostName n) = on_damaged e (λ (name : Name). name ≡ index_name (entry.number / 100)) (IsPostName n) (λ name at. inr (c.requires.high, at ∙ ap (λ (m : ℕ). index_name (m / 100)) same)) failed.named in
          search rules;
      damaged = λ told.
          let dir = g.F.Files.map c.args.files.now in
          let found = c.in-Some.ensures.some dir (c.requires.known told) in
          let bad : OnDamaged e (IsBadIndexed dir n) =
          on_both e (λ (name : Name). name ≡ index_name (entry.number / 100)) (λ _. IsOtherSize dir entry.number entry.size) (IsBadIndexed dir n)
          (λ name at other. inr (at ∙ ap (λ (m : ℕ). index_name (m / 100)) same, record { entries = found.0; index = found.1; entry = entry; found = found.2; lacks = subst (λ (m : ℕ). IsOtherSize dir m entry.size) same other }))
          failed.named (failed.damaged told) in
          search rules;
    }

pub returns-clause-value : goal.returns-clause-value
returns-clause-value g c told =
    let dir = g.F.Files.map c.args.files.now in
    let entry = c.in-Some.entry.now in
    let same = c.in-Some.ensures.number in
    let bytes = c.in_ok-message.message in
    let moment : c.min.result ≡ min entry.moment 253_402_300_799 = search rules in
    let mail : record { sender = c.bytes.result.now; moment = c.min.result; message = c.as_slice.result.now } ≡ record { sender = entry.sender; moment = min entry.moment 253_402_300_799; message = bytes } =
    λ i. record { sender = c.bytes.ensures.value i; moment = moment i; message = c.as_slice.ensures i } in
    record {
      entry = entry;
      found = c.in-Some.ensures.some dir (c.requires.known told);
      bytes = bytes;
      there = sym (ap (λ (m : ℕ). dir (post_name m)) same) ∙ c.in_ok-message.ensures.read told;
      size = c.in_ok-message.ensures.size;
      added = c.in_ok-push_mail.ensures.ok ∙ ap (λ (m : Mailed). c.args.out.now ++ mail_text m) mail;
    }
