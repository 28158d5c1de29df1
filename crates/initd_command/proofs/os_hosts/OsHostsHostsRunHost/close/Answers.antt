use Rattle.initd_command.proofs.os_hosts.OsHostsHostsRunHost.close.Goals as goal

pub returns-clause-conforms : goal.returns-clause-conforms
returns-clause-conforms g c =
    rw (c.calls.ensures.value, c.asked.ensures, c.heard.ensures.value) (
      (c.args.host.held, c.calls.ensures.own),
      (c.args.host.channel.rest, c.heard.ensures.own),
    )
