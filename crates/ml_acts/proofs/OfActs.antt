-- What is promised of an act on the list holds after other calls too, and in other terms.
use Rattle.std.proofs.Common.{◌≡◌, Bool, true, List, [], Result, Ok, Err, IfErr, IsTrue, refl, sym, subst}
use Rattle.ml_base.specs.Dir.{Dir}
use Rattle.ml_base.specs.PartErrors.{OnDamaged}
use Rattle.ml_base.specs.ReadFiles.{AreKept, IsReading, NamesDamaged}
use Rattle.ml_base.specs.declared.files.Files.{Ghosts}
use Rattle.ml_base.specs.declared.names.Name.{Name}
use Rattle.ml_base.specs.declared.part_error.PartError.{PartError}
use Rattle.ml_base.specs.declared.puts.Put.{Put}
use Rattle.ml_base.proofs.DamagedNames.{err_both_damaged, err_damaged, on_damaged}
use Rattle.ml_base.proofs.ReadingLemmas.{KeepsItself, KeepsOn, kept_read, kept_self, reading_ok, reading_then}
use Rattle.ml_config.specs.ConfigFile.{IsConfigFile, config_name}
use Rattle.ml_config.specs.declared.configuration.Config.{Config}
use Rattle.ml_filing.specs.Threads.{is_of_archive}
use Rattle.ml_plain.specs.KeptFiles.{may_be_kept}
use Rattle.ml_plain.specs.declared.Reply.{Reply}
use Rattle.ml_acts.proofs.Asked.{named_beside}
use Rattle.ml_acts.proofs.Damages.{named_so, ok_then}
use Rattle.ml_acts.proofs.HeldConfig.{named_held}
use Rattle.ml_acts.proofs.Queued.{touches_weaker}
use Rattle.ml_acts.specs.Acting.{AnswersWithin}
use Rattle.ml_acts.specs.Asked.{Asked, IsDamagedOf}
use Rattle.ml_acts.specs.Configured.{with_config}
use Rattle.ml_acts.specs.Damaged.{IsDamaged}

-- files that were kept have the same directory: in a function this is `g.met.F.Files.kept_map`
abbrev pub KeepsMap : {F : Type 0} → Ghosts F → Type 0
KeepsMap {F} ghosts = (old new : F) → IsTrue ghosts.tells → ghosts.kept old new → ghosts.map new ≡ ghosts.map old

module _ {F : Type 0} (ghosts : Ghosts F) (r : Result (List Put × Reply) PartError) (May Bad Worse : Name → Type 0) where
  -- after a call that only read
  pub act_then : {may_write : Name → Bool} → KeepsOn ghosts → (first second third : F) → AreKept ghosts first second → (IsTrue ghosts.tells → (name : Name) → Bad name → Worse name) → AnswersWithin may_write ghosts May Bad second third r
      → AnswersWithin may_write ghosts May Worse first third r
  act_then on first second third kept worse is = record {
    own = is.own;
    files = is.files;
    reply = is.reply;
    names = record { named = is.names.named; damaged = λ t. err_damaged r Bad Worse (worse t) (is.names.damaged t) };
    reads = reading_then ghosts on first second third r kept is.reads;
  }

  -- more may be read, and what is named is damaged in other terms
  pub act_so : {may_write : Name → Bool} (Few : Name → Type 0) (old new : F) → ((name : Name) → Few name → May name) → ((name : Name) → Few name → Bad name → Worse name) → AnswersWithin may_write ghosts Few Bad old new r → AnswersWithin may_write ghosts May Worse old new r
  act_so Few old new may worse is = record {
    own = is.own;
    files = is.files;
    reply = is.reply;
    names = named_so ghosts May r Few Bad Worse may worse is.names;
    reads = is.reads;
  }

-- both: damaged in the files as they were before the read
pub act_after : {F T : Type 0} {may_write : Name → Bool} {first second third : F} {May Few Worse : Name → Type 0} {r : Result (List Put × Reply) PartError} {found : Result T PartError} (ghosts : Ghosts F) (Bad : Dir → Name → Type 0) → KeepsOn ghosts → KeepsMap ghosts → IsReading ghosts first second found
    → AnswersWithin may_write ghosts Few (Bad (ghosts.map second)) second third r → ((name : Name) → Few name → May name) → (IsTrue ghosts.tells → (name : Name) → Few name → Bad (ghosts.map first) name → Worse name) → AnswersWithin may_write ghosts May Worse first third r
act_after {first = first} {second = second} {third = third} {May = May} {Few = Few} {Worse = Worse} {r = r} {found = found} ghosts Bad on maps read is may worse = record {
  own = is.own;
  files = is.files;
  reply = is.reply;
  names = record {
    named = err_damaged r Few May may is.names.named;
    damaged = λ t. err_both_damaged r Few (Bad (ghosts.map first)) Worse (worse t) is.names.named (subst (λ (d : Dir). IfErr r (λ e. OnDamaged e (Bad d))) (maps first second t read.kept) (is.names.damaged t));
  };
  reads = reading_then ghosts on first second third r (kept_read ghosts first second found read) is.reads;
}

-- the same of the list's files
pub act_kept : {F T : Type 0} {may_write : Name → Bool} {ghosts : Ghosts F} {first second third : F} {May Few : Name → Type 0} {r : Result (List Put × Reply) PartError} {found : Result T PartError} → KeepsOn ghosts → KeepsMap ghosts → IsReading ghosts first second found
    → AnswersWithin may_write ghosts Few (IsDamaged (ghosts.map second)) second third r → ((name : Name) → Few name → May name) → AnswersWithin may_write ghosts May (IsDamaged (ghosts.map first)) first third r
act_kept {ghosts = ghosts} on maps read act may = act_after ghosts IsDamaged on maps read act may (λ t name few bad. bad)

-- an act that names none of the archive's files, after a call that only read
pub act_beside : {F : Type 0} {may_write : Name → Bool} {first second third : F} {May Few : Name → Type 0} {r : Result (List Put × Reply) PartError} (ghosts : Ghosts F) (asked : Asked) → KeepsOn ghosts → AreKept ghosts first second → (IsTrue ghosts.tells → ghosts.map second ≡ ghosts.map first)
    → ((name : Name) → Few name → May name) → ((name : Name) → Few name → is_of_archive name ≡ true → ⊥) → AnswersWithin may_write ghosts Few (IsDamaged (ghosts.map second)) second third r → AnswersWithin may_write ghosts May (IsDamagedOf (ghosts.map first) asked) first third r
act_beside {first = first} {second = second} {third = third} {May = May} {Few = Few} {r = r} ghosts asked on kept same may beside act = record {
  own = act.own;
  files = act.files;
  reply = act.reply;
  names = named_beside ghosts May r (ghosts.map first) (ghosts.map second) asked Few same may beside act.names;
  reads = reading_then ghosts on first second third r kept act.reads;
}

-- an act under a configuration which the files hold
pub act_held : {F : Type 0} {may_write : Name → Bool} {May : Name → Type 0} {old new : F} {r : Result (List Put × Reply) PartError} (c : Config) (dir : Dir) (ghosts : Ghosts F) (Bad : Dir → Name → Type 0) → (IsTrue ghosts.tells → IsConfigFile (dir config_name) c) → AnswersWithin may_write ghosts May (Bad (with_config c dir)) old new r
    → AnswersWithin may_write ghosts May (Bad dir) old new r
act_held {May = May} {r = r} c dir ghosts Bad held is = record { own = is.own; files = is.files; reply = is.reply; names = named_held c dir ghosts May Bad r held is.names; reads = is.reads }

-- a read that failed, whose file may be read
pub act_err : {F T : Type 0} {may_write : Name → Bool} {ghosts : Ghosts F} {old new : F} {May Few Bad : Name → Type 0} {r : Result (List Put × Reply) PartError} {e : PartError} → NamesDamaged {T = T} ghosts Few Bad (Err e) → IsReading {T = T} ghosts old new (Err e) → ((name : Name) → Few name → May name) → r ≡ Err e → AnswersWithin may_write ghosts May Bad old new r
act_err {may_write = may_write} {ghosts = ghosts} {old = old} {new = new} {May = May} {Few = Few} {Bad = Bad} {e = e} named read may is = subst (λ (r : Result (List Put × Reply) PartError). AnswersWithin may_write ghosts May Bad old new r) (sym is) (record {
  own = tt;
  files = tt;
  reply = tt;
  names = record { named = on_damaged e Few May may named.named; damaged = named.damaged };
  reads = record { kept = read.kept; later = read.later; cause = λ bad. read.cause (cc) };
})

-- a reply alone
pub act_reply : {F : Type 0} {may_write : Name → Bool} {ghosts : Ghosts F} {files : F} {May Bad : Name → Type 0} {puts : List Put} {reply : Reply} → KeepsItself ghosts → puts ≡ [] → may_be_kept reply ≡ true → AnswersWithin may_write ghosts May Bad files files (Ok (puts, reply))
act_reply {may_write = may_write} {ghosts = ghosts} {files = files} {May = May} {Bad = Bad} {reply = reply} itself none kept = subst (λ (t : List Put). AnswersWithin may_write ghosts May Bad files files (Ok (t, reply))) (sym none) (record {
  own = refl;
  files = refl;
  reply = kept;
  names = record { named = tt; damaged = λ t. tt };
  reads = reading_ok ghosts files files ([], reply) (kept_self ghosts itself files);
})

-- an act that may write more
pub act_wider : {F : Type 0} {few more : Name → Bool} {ghosts : Ghosts F} {old new : F} {May Bad : Name → Type 0} {r : Result (List Put × Reply) PartError} → AnswersWithin few ghosts May Bad old new r → ((name : Name) → few name ≡ true → more name ≡ true) → AnswersWithin more ghosts May Bad old new r
act_wider {few = few} {more = more} {r = r} act wider = record {
  own = ok_then r (λ done only. touches_weaker few more done.0 wider only) act.own;
  files = act.files;
  reply = act.reply;
  names = act.names;
  reads = act.reads;
}
