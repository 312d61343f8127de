use Rattle.std.proofs.Common.{sym, subst}
use Rattle.ml_header.specs.Steps.{AreWhole}
use Rattle.ml_header.proofs.Rewrites.{fields_whole}
use Rattle.ml_digest.proofs.messages.add_kept_fields.Goals as goal

pub add_named-requires : goal.add_named-requires
add_named-requires c = subst AreWhole (sym c.fields.ensures) (fields_whole c.args.message.now)

pub add_named-requires-2 : goal.add_named-requires-2
add_named-requires-2 c = subst AreWhole (sym c.fields-2.ensures) (fields_whole c.args.message.now)

pub add_named-requires-3 : goal.add_named-requires-3
add_named-requires-3 c = subst AreWhole (sym c.fields-3.ensures) (fields_whole c.args.message.now)

pub add_named-requires-4 : goal.add_named-requires-4
add_named-requires-4 c = subst AreWhole (sym c.fields-4.ensures) (fields_whole c.args.message.now)

pub add_named-requires-5 : goal.add_named-requires-5
add_named-requires-5 c = subst AreWhole (sym c.fields-5.ensures) (fields_whole c.args.message.now)

pub add_named-requires-6 : goal.add_named-requires-6
add_named-requires-6 c = subst AreWhole (sym c.fields-6.ensures) (fields_whole c.args.message.now)

pub add_named-requires-7 : goal.add_named-requires-7
add_named-requires-7 c = subst AreWhole (sym c.fields-7.ensures) (fields_whole c.args.message.now)

pub add_named-requires-8 : goal.add_named-requires-8
add_named-requires-8 c = subst AreWhole (sym c.fields-8.ensures) (fields_whole c.args.message.now)
