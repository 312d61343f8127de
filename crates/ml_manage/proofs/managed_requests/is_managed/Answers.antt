use Rattle.std.proofs.Common.{◌∙◌}
use Rattle.ml_address.specs.Views.{request_view}
use Rattle.ml_manage.proofs.Requests.{managed_read}
use Rattle.ml_manage.proofs.Others.{is_other}
use Rattle.ml_manage.proofs.managed_requests.is_managed.Goals as goal

pub returns-in-Help-3 : goal.returns-in-Help-3
returns-in-Help-3 c local host text read = is_other c.args.request.now c.in-Help.is ∙ managed_read local host text (request_view c.args.request.now) read

pub returns-in-Help-4 : goal.returns-in-Help-4
returns-in-Help-4 c local host text read = is_other c.args.request.now c.in-Help.is ∙ managed_read local host text (request_view c.args.request.now) read

pub returns-in-Help-5 : goal.returns-in-Help-5
returns-in-Help-5 c local host text read = is_other c.args.request.now c.in-Help.is ∙ managed_read local host text (request_view c.args.request.now) read

pub returns-in-Help-6 : goal.returns-in-Help-6
returns-in-Help-6 c local host text read = is_other c.args.request.now c.in-Help.is ∙ managed_read local host text (request_view c.args.request.now) read

pub returns-in-Help-7 : goal.returns-in-Help-7
returns-in-Help-7 c local host text read = is_other c.args.request.now c.in-Help.is ∙ managed_read local host text (request_view c.args.request.now) read

pub returns-in-Help-8 : goal.returns-in-Help-8
returns-in-Help-8 c local host text read = is_other c.args.request.now c.in-Help.is ∙ managed_read local host text (request_view c.args.request.now) read

pub returns-in-Help-9 : goal.returns-in-Help-9
returns-in-Help-9 c local host text read = is_other c.args.request.now c.in-Help.is ∙ managed_read local host text (request_view c.args.request.now) read

pub returns-in-Help-10 : goal.returns-in-Help-10
returns-in-Help-10 c local host text read = is_other c.args.request.now c.in-Help.is ∙ managed_read local host text (request_view c.args.request.now) read

pub returns-in-Help-11 : goal.returns-in-Help-11
returns-in-Help-11 c local host text read = is_other c.args.request.now c.in-Help.is ∙ managed_read local host text (request_view c.args.request.now) read

pub returns-in-Help-12 : goal.returns-in-Help-12
returns-in-Help-12 c local host text read = is_other c.args.request.now c.in-Help.is ∙ managed_read local host text (request_view c.args.request.now) read

pub returns-in-Help-13 : goal.returns-in-Help-13
returns-in-Help-13 c local host text read = is_other c.args.request.now c.in-Help.is ∙ managed_read local host text (request_view c.args.request.now) read
