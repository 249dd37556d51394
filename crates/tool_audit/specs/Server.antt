-- A sporadic server that an audit is about: the thread's name, the replenishment period, the initial budget, and the greatest number of
-- pending replenishments (IEEE 1003.1-2017, XSH 2.8.4, SCHED_SPORADIC). The form is this project's own.
pub use Rattle.tool_audit.specs.declared.server.Limits.{Limits}
pub use Rattle.tool_audit.specs.declared.server.NamedServer.{NamedServer}
