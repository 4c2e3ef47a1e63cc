mod CleanLemmas
mod ExchangeLemmas
mod FiringLemmas
mod ListLemmas
mod ReportLemmas
mod SsectorLemmas
mod ThingLemmas
